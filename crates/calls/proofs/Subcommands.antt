-- What an accepted SET FEATURES EPC leaves, by any Count and on any unit. 0h, 2h and 3h leave a condition that Count names as the table's row says, every
-- other record, the power condition and the marks as they were, and the idle count at 0. 1h leaves the unit in the named condition and every record as it
-- was. Each is the law on the drive, carried to the unit.
use Rattle.std.proofs.Common.{Ok}
use mathlib.Core.Path.{◌≡◌, refl, sym, ◌∙◌}
use mathlib.Core.Bool.{Bool, true, false}
use mathlib.Core.Logic.{◌↔◌}
use Prim.Native.Nat.{ℕ, ◌<◌}
use lib.ListN.{length, get_or}
use borrow.Author.Tests.{eq-eqb, not-false}
use Rattle.bits.specs.Bits.{bits}
use Rattle.conditions.specs.declared.Condition.{Condition}
use Rattle.conditions.specs.declared.Cause.TheVariants.{Command}
use Rattle.conditions.specs.declared.Power.TheVariants.{Low}
use Rattle.drive.specs.declared.Record.{Record}
use Rattle.registers.specs.Commands.{named}
use Rattle.registers.specs.declared.Registers.{Registers}
use Rattle.registers.specs.declared.Named.TheVariants.{One}
use Rattle.epc.specs.Epc.{sub_of, selects, is_go_to, aborts}
use Rattle.epc.proofs.Effects.{records_after, idle_after, power_stays}
use Rattle.epc.proofs.Exactly.{Names, goes_one, not_goes, selects_names, accepted_exactly}
use Rattle.epc.proofs.Fields.{power_after}
use Rattle.epc.proofs.Selected.{unselected_stays}
use Rattle.epc.proofs.Settings.{Follows, selected_follows}
use Rattle.refusals.proofs.Lowest.{not_applies, clear_when}
use Rattle.refusals.specs.declared.Refusal.TheVariants.{BadRecord, CommandOut, Aborted}
use Rattle.unit.specs.Units.{is_out, well_formed}
use Rattle.unit.specs.declared.Unit.{Unit}
use Rattle.engine.specs.Engine.{epc_rows}
use Rattle.calls.specs.Calls.{set_features, outcome, step}
use Rattle.calls.specs.Table.{verdict_in}
use Rattle.calls.proofs.Leaves.{Leaves}
use Rattle.calls.proofs.Numbers.{own_told, acceptance_does}

-- The call is not refused.
abbrev pub Accepts : Unit → Registers → Type 0
Accepts u q = verdict_in (outcome u (set_features q)).said ≡ Ok tt

-- Of its rows 3, 4 and 10 none applies.
pub epc_accepted : (u : Unit) (q : Registers)
    → Accepts u q ↔ ((well_formed u ≡ true) × (is_out u.out ≡ false) × (aborts u.edition q u.drive.records ≡ false))
epc_accepted u q = (
  λ h. let clear = sym (own_told u (set_features q)) ∙ h in (
    not-false _ (not_applies (epc_rows u q) BadRecord clear),
    not_applies (epc_rows u q) CommandOut clear,
    not_applies (epc_rows u q) Aborted clear,
  ),
  λ h. own_told u (set_features q) ∙ clear_when (epc_rows u q) (rw (h.0, h.1, h.2)),
)

module _ (u : Unit) (q : Registers) (accepted : Accepts u q) where
  abbrev number : ℕ
  number = bits 3 0 q.lba

  -- "1h go to": "unit enters the condition, cause command; marks stay".
  pub go_to_leaves : (c : Condition) → number ≡ 1 → named q.count ≡ One c
      → Leaves (Low c Command) u.stopped u.unsaved (step u (set_features q)) × ((step u (set_features q)).drive.records ≡ u.drive.records)
  go_to_leaves c one e =
      let goes : is_go_to (sub_of q.lba) ≡ true = goes_one q.lba ∙ eq-eqb number 1 one in
      rw (acceptance_does u (set_features q) accepted).0 (
        record { power = power_after q u.drive ∙ rw (goes, e); stopped = refl; unsaved = refl; idle = idle_after q u.drive },
        records_after q u.drive ∙ rw goes,
      )

  module _ (other : number ≡ 1 → ⊥) where
    -- 0h, 2h and 3h: the condition, its cause and the marks stay,
    pub settings_leave : Leaves u.drive.power u.stopped u.unsaved (step u (set_features q))
    settings_leave =
        rw (acceptance_does u (set_features q) accepted).0
        (record { power = power_stays q u.drive (not_goes q.lba other); stopped = refl; unsaved = refl; idle = idle_after q u.drive })

    module _ (z : Record) (i : ℕ) where
      -- a condition that Count names follows the table,
      pub named_follows : i < length u.drive.records → Names number (named q.count) i (get_or u.drive.records i z)
          → Follows number q.lba (get_or u.drive.records i z) (get_or (step u (set_features q)).drive.records i z)
      named_follows within names =
          rw (acceptance_does u (set_features q) accepted).0
          (selected_follows q u.drive z i other
          ((accepted_exactly u.edition q u.drive.records z).0 ((epc_accepted u q).0 accepted).2).reads.number
          within
          names)

      -- and any other keeps its record.
      pub unnamed_stays : (Names number (named q.count) i (get_or u.drive.records i z) → ⊥)
          → get_or (step u (set_features q)).drive.records i z ≡ get_or u.drive.records i z
      unnamed_stays none = rw (acceptance_does u (set_features q) accepted).0 (unselected_stays q u.drive z i (on _ refl))
        where
          on : (b : Bool) → selects (sub_of q.lba) (named q.count) i (get_or u.drive.records i z) ≡ b → b ≡ false
          on true e = absurd (none (selects_names q.lba (named q.count) i _ e))
          on false e = refl
