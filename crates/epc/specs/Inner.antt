-- Names for what inner functions promise: the clauses of `aborts` in the groups in which the code decides them, and the change at one place.
-- Nothing outside this crate cites them.
use Rattle.std.specs.Prelude.{Bool, not, ◌&&◌, ◌||◌, cond, List, ℕ, eqb}
use Rattle.rows.specs.Rows.{some_at}
use Rattle.drive.specs.declared.Edition.{Edition}
use Rattle.drive.specs.declared.Record.{Record}
use Rattle.epc.specs.Epc.{is_unknown, is_go_to, reserved_in_lba, is_unlisted, is_every, selects, changed}
use Rattle.registers.specs.declared.Registers.{Registers}
use Rattle.epc.specs.declared.Sub.{Sub}
use Rattle.registers.specs.declared.Named.{Named}

-- The registers alone: command, feature, subcommand, reserved bits.
abbrev pub misread : Edition → Registers → Sub → Bool
misread e q sub = not (eqb q.command 0xEF) || not (eqb q.feature 0x4A) || is_unknown sub || reserved_in_lba e sub q.lba

-- Count: not listed, or FFh for a go to.
abbrev pub misnamed : Bool → Named → Bool
misnamed goes n = is_unlisted n || goes && is_every n

-- One condition: unsupported; not changeable, for all but go to; not saveable, with bit 4.
abbrev pub barred : Bool → Bool → Record → Bool
barred goes saves r = not r.supported || not goes && not r.changeable || saves && not r.saveable

abbrev pub selected_barred : Sub → Named → Bool → ℕ → Record → Bool
selected_barred sub n saves place r = selects sub n place r && barred (is_go_to sub) saves r

-- Count and the records: not listed, FFh for a go to, no condition selected, or a selected one that bars the subcommand.
abbrev pub unfit : Sub → Named → Bool → List Record → Bool
unfit sub n saves rs = misnamed (is_go_to sub) n || not (some_at (selects sub n) 0 rs) || some_at (selected_barred sub n saves) 0 rs

-- One condition's record after the subcommand.
abbrev pub changed_by : Sub → Named → ℕ → ℕ → Record → Record
changed_by sub n lba place r = cond (selects sub n place r) (changed sub lba r) r
