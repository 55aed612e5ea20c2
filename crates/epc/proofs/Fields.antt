-- What an accepted subcommand leaves of power and idle count comes of the power before it alone, whatever else a drive may carry. (Of the records:
-- Effects · records_after.)
use mathlib.Core.Path.{◌≡◌, refl, ap}
use mathlib.Core.Bool.{Bool, true, false, cond}
use Prim.Native.Nat.{ℕ}
use Rattle.rows.specs.Rows.{map_at}
use Rattle.drive.specs.Drives.{restarted, with_records}
use Rattle.conditions.specs.declared.Cause.TheVariants.{Command}
use Rattle.conditions.specs.declared.Power.{Power}
use Rattle.conditions.specs.declared.Power.TheVariants.{Low}
use Rattle.drive.specs.declared.Drive.{Drive}
use Rattle.epc.specs.Epc.{sub_of, is_go_to, changed_at, gone_to, performed}
use Rattle.registers.specs.Commands.{named}
use Rattle.registers.specs.declared.Registers.{Registers}
use Rattle.registers.specs.declared.Named.{Named}
use Rattle.registers.specs.declared.Named.TheVariants.{One, Every, Unlisted}
use Rattle.epc.proofs.Effects.{idle_after}

-- The power that a go to leaves: Count names the condition to enter, or none.
abbrev pub power_named : Named → Power → Power
power_named (One c) p = Low c Command
power_named Every p = p
power_named Unlisted p = p

goes_power : (n : Named) (d : Drive) → (gone_to n d).power ≡ power_named n d.power
goes_power (One c) d = refl
goes_power Every d = refl
goes_power Unlisted d = refl

pub power_after : (q : Registers) (d : Drive)
    → (performed q d).power ≡ cond (is_go_to (sub_of q.lba)) (power_named (named q.count) d.power) d.power
unfolding performed
power_after q d = go (is_go_to (sub_of q.lba))
  where
    go : (b : Bool)
        → (cond b (gone_to (named q.count) (restarted d)) (with_records (map_at (changed_at q) 0 d.records) (restarted d))).power
        ≡ cond b (power_named (named q.count) d.power) d.power
    go true = goes_power (named q.count) (restarted d)
    go false = refl

pub count_after : (q : Registers) (d : Drive) → (performed q d).idle ≡ record { 0 = 0 }
count_after q d = ap (λ (n : ℕ). record { 0 = n }) (idle_after q d)
