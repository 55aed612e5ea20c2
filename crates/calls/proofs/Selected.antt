-- Document 02, request (iv), over calls: when a subcommand with FFh is accepted, and what becomes of each condition; and that no call but a power-on
-- changes one that is not changeable. It is what epc/Selected says of the drive, said of the unit.
use Rattle.std.proofs.Common.{Ok, Err}
use mathlib.Core.Path.{◌≡◌, refl, sym, ◌∙◌}
use mathlib.Core.Bool.{Bool, true, false, ◌&&◌, true≢false}
use mathlib.Core.Logic.{◌↔◌}
use Prim.Native.Nat.{ℕ, ◌<◌}
use native.Mathlib.Omega.{arith}
use lib.ListN.{length, get_or}
use Rattle.rows.proofs.Places.{and_left, and_right}
use Rattle.bits.specs.Bits.{bits}
use Rattle.conditions.specs.Conditions.{place_of}
use Rattle.conditions.specs.declared.Condition.{Condition}
use Rattle.conditions.proofs.Conditions.{place_below}
use Rattle.drive.specs.declared.Record.{Record}
use Rattle.drive.proofs.WellFormed.{drive_five}
use Rattle.registers.specs.Commands.{named}
use Rattle.registers.specs.declared.Registers.{Registers}
use Rattle.registers.specs.declared.Named.TheVariants.{Every}
use Rattle.epc.specs.Epc.{aborts}
use Rattle.epc.proofs.Exactly.{Reads}
use Rattle.epc.proofs.Selected.{EveryFits, every_exactly, alone, as_alone, alone_aborts, others_spared, unchangeable_stays}
use Rattle.refusals.proofs.Lowest.{not_applies}
use Rattle.refusals.specs.declared.Refusal.TheVariants.{Aborted}
use Rattle.unit.specs.Units.{is_out, well_formed, largest_of}
use Rattle.unit.specs.declared.Unit.{Unit}
use Rattle.unit.proofs.WellFormed.{unit_fine}
use Rattle.engine.specs.Engine.{epc_rows}
use Rattle.calls.specs.Calls.{Call, set_features, outcome, step}
use Rattle.calls.specs.Described.{is_power_on}
use Rattle.calls.specs.Table.{verdict_in}
use Rattle.calls.proofs.Leaves.{after_settings_lem}
use Rattle.calls.proofs.Numbers.{acceptance_does, after_refusal}
use Rattle.calls.proofs.Subcommands.{Accepts, epc_accepted}
use Rattle.refusals.specs.Refusals.{Verdict}

module _ (u : Unit) (q : Registers) (z : Record) (all : named q.count ≡ Every) where
  -- "For subcommands 0h, 2h and 3h FFh now selects the supported and changeable conditions, and aborts if there are none. With bit 4, any selected one
  -- that isn't saveable still aborts everything."
  pub every_accepted : Accepts u q
      ↔ ((well_formed u ≡ true) × (is_out u.out ≡ false)
      × Reads u.edition q × (bits 3 0 q.lba ≡ 1 → ⊥) × EveryFits q.lba u.drive.records z)
  every_accepted = (
    λ h. let a = (epc_accepted u q).0 h in let e = (every_exactly u.edition q u.drive.records z all).0 a.2 in (a.0, a.1, e.0, e.1, e.2),
    λ h. (epc_accepted u q).1 (h.0, h.1, (every_exactly u.edition q u.drive.records z all).1 (h.2, h.3, h.4)),
  )

  module _ (accepted : Accepts u q) where
    abbrev before : ℕ → Record
    before i = get_or u.drive.records i z

    abbrev after : Registers → ℕ → Record
    after r i = get_or (step u (set_features r)).drive.records i z

    clear : (well_formed u ≡ true) × (is_out u.out ≡ false) × (aborts u.edition q u.drive.records ≡ false)
    clear = (epc_accepted u q).0 accepted

    inside : (c : Condition) → place_of c < length u.drive.records
    inside c = let five = drive_five (largest_of u) u.drive ((unit_fine u).0 clear.0).drive in omega (arith, five, place_below c)

    -- A condition that FFh selects: its own Count is accepted too, and leaves the same of it.
    pub selected_as_alone : (c : Condition) → (before (place_of c)).supported ≡ true → (before (place_of c)).changeable ≡ true
        → Accepts u (alone c q) × (after q (place_of c) ≡ after (alone c q) (place_of c))
    selected_as_alone c sup chg =
        let same = as_alone u.edition q u.drive z all clear.2 c (inside c) sup chg in
        let own = (epc_accepted u (alone c q)).1 (clear.0, clear.1, same.0) in
        (own, rw ((acceptance_does u (set_features q) accepted).0, (acceptance_does u (set_features (alone c q)) own).0) same.1)

    -- Any other keeps its record.
    pub unselected_kept : (i : ℕ) → ((before i).supported && (before i).changeable) ≡ false → after q i ≡ before i
    unselected_kept i e = rw (acceptance_does u (set_features q) accepted).0 (others_spared u.edition q u.drive z all clear.2 i e)

    -- So an accepted FFh leaves of each condition what its own Count leaves, whether that one is accepted or aborts.
    pub each_as_alone : (c : Condition) → after q (place_of c) ≡ after (alone c q) (place_of c)
    each_as_alone c = on ((before (place_of c)).supported && (before (place_of c)).changeable) refl
      where
        kept : ((before (place_of c)).supported && (before (place_of c)).changeable) ≡ false → (v : Verdict)
            → verdict_in (outcome u (set_features (alone c q))).said ≡ v → after (alone c q) (place_of c) ≡ before (place_of c)
        kept e (Ok _) h =
            absurd (true≢false (sym (alone_aborts u.edition q u.drive z all clear.2 c (inside c) e) ∙ ((epc_accepted u (alone c q)).0 h).2))
        kept e (Err r) h =
            after_refusal u (set_features (alone c q)) r (λ v. get_or v.drive.records (place_of c) z ≡ before (place_of c)) refl refl h

        on : (b : Bool) → ((before (place_of c)).supported && (before (place_of c)).changeable) ≡ b → after q (place_of c) ≡ after (alone c q) (place_of c)
        on true e = (selected_as_alone c (and_left _ _ e) (and_right (before (place_of c)).supported _ e)).1
        on false e = unselected_kept (place_of c) e ∙ sym (kept e (verdict_in (outcome u (set_features (alone c q))).said) refl)

-- A condition that is not changeable keeps its record through every call but a power-on, accepted or refused, whatever Count names.
pub unchangeable_kept : (u : Unit) (z : Record) (i : ℕ) → i < length u.drive.records → (get_or u.drive.records i z).changeable ≡ false
    → (c : Call) → is_power_on c ≡ false → get_or (step u c).drive.records i z ≡ get_or u.drive.records i z
unchangeable_kept u z i within fixed =
    after_settings_lem u (λ c rs. get_or rs i z ≡ get_or u.drive.records i z) (λ c. refl)
    (λ q clear. unchangeable_stays q u.drive z i u.edition (not_applies (epc_rows u q) Aborted clear) within fixed)
