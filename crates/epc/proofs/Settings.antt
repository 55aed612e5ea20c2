-- Document 01, "Effect on each selected condition", in the words of its table: what an accepted subcommand leaves of a condition that Count names, by the
-- number and the bits of LBA, whatever the place and the record. It is proved number by number, from what `changed` computes. What the maker said of the
-- condition stays (Effects · maker_stays).
use mathlib.Core.Path.{◌≡◌, refl}
use mathlib.Core.Bool.{true, false, not, ◌&&◌}
use mathlib.Core.Logic.{◌↔◌}
use Prim.Native.Nat.{ℕ, ◌*◌, ◌<◌, ◌≤◌}
use native.Mathlib.Omega.{arith}
use lib.Dec.{eqb}
use lib.ListN.{length, get_or}
use borrow.Author.Tests.{eqb-false, ne_eqb, not-true}
use Rattle.rows.proofs.Places.{and_left, and_right, and_both}
use Rattle.drive.specs.declared.Setting.{Setting}
use Rattle.drive.specs.declared.Record.{Record}
use Rattle.drive.specs.declared.Drive.{Drive}
use Rattle.bits.specs.Bits.{bits, bit}
use Rattle.registers.specs.Commands.{named}
use Rattle.registers.specs.declared.Registers.{Registers}
use Rattle.epc.specs.Epc.{sub_of, timer_in, changed, performed}
use Rattle.epc.proofs.Exactly.{Names, not_goes, names_selects}
use Rattle.epc.proofs.Reserved.{by_number}
use Rattle.epc.proofs.Selected.{selected_changes}

-- "flag is enable and .. timer nonzero".
abbrev pub FlagBy : ℕ → Setting → Type 0
FlagBy lba s = s.enabled ≡ true ↔ ((bit 5 lba ≡ true) × (s.timer.0 ≡ 0 → ⊥))

-- The settings before and after, by the subcommand's number: 0, 2 or 3. A go to changes no record.
pub record Follows (number lba : ℕ) (r s : Record) : Type 0 where
  -- "0h": "current becomes default (bit 6 one) or saved";
  pub from_default_lem : number ≡ 0 → bit 6 lba ≡ true → s.current ≡ r.default
  pub from_saved : number ≡ 0 → bit 6 lba ≡ false → s.current ≡ r.saved
  -- "2h": "current timer set; flag is enable and timer nonzero"; document 02, request (vi): "one means minutes, 600 tenths each";
  pub flag : number ≡ 2 → FlagBy lba s.current
  pub in_tenths : number ≡ 2 → bit 7 lba ≡ false → s.current.timer.0 ≡ bits 23 8 lba
  pub in_minutes : number ≡ 2 → bit 7 lba ≡ true → s.current.timer.0 ≡ 600 * bits 23 8 lba
  -- "3h": "current flag is enable and current timer nonzero";
  pub state : number ≡ 3 → (s.current.timer.0 ≡ r.current.timer.0) × FlagBy lba s.current
  -- "with bit 4, saved takes the same setting"; "bit 4: saved likewise"; "bit 4: saved flag likewise from the saved timer";
  pub saves : bit 4 lba ≡ true → (number ≡ 3 → ⊥) → s.saved ≡ s.current
  pub saves_flag : bit 4 lba ≡ true → number ≡ 3 → (s.saved.timer.0 ≡ r.saved.timer.0) × FlagBy lba s.saved
  -- and without it the saved setting stays.
  pub unsaved : bit 4 lba ≡ false → s.saved ≡ r.saved

module _ (lba : ℕ) where
  flag_set_lem : (t : ℕ) → ((bit 5 lba && not (eqb t 0)) ≡ true) ↔ ((bit 5 lba ≡ true) × (t ≡ 0 → ⊥))
  flag_set_lem t = (
    λ e. (and_left (bit 5 lba) _ e, eqb-false t 0 (not-true _ (and_right (bit 5 lba) (not (eqb t 0)) e))),
    λ h. and_both _ _ h.0 (rw (ne_eqb t 0 h.1)),
  )

  changed_follows : (r : Record) → (bits 3 0 lba ≡ 1 → ⊥) → bits 3 0 lba ≤ 3 → Follows (bits 3 0 lba) lba r (changed (sub_of lba) lba r)
  changed_follows r =
      by_number (λ n sub. (n ≡ 1 → ⊥) → n ≤ 3 → Follows n lba r (changed sub lba r))
      (λ other small. record {
        from_default_lem = λ n e. rw e;
        from_saved = λ n e. rw e;
        flag = λ n. absurd (omega (arith, n));
        in_tenths = λ n. absurd (omega (arith, n));
        in_minutes = λ n. absurd (omega (arith, n));
        state = λ n. absurd (omega (arith, n));
        saves = λ e n. rw e;
        saves_flag = λ e n. absurd (omega (arith, n));
        unsaved = λ e. rw e;
      })
      (λ other small. absurd (other refl))
      (λ other small. record {
        from_default_lem = λ n. absurd (omega (arith, n));
        from_saved = λ n. absurd (omega (arith, n));
        flag = λ n. flag_set_lem (timer_in lba);
        in_tenths = λ n e. rw e;
        in_minutes = λ n e. rw e;
        state = λ n. absurd (omega (arith, n));
        saves = λ e n. rw e;
        saves_flag = λ e n. absurd (omega (arith, n));
        unsaved = λ e. rw e;
      })
      (λ other small. record {
        from_default_lem = λ n. absurd (omega (arith, n));
        from_saved = λ n. absurd (omega (arith, n));
        flag = λ n. absurd (omega (arith, n));
        in_tenths = λ n. absurd (omega (arith, n));
        in_minutes = λ n. absurd (omega (arith, n));
        state = λ n. (refl, flag_set_lem r.current.timer.0);
        saves = λ e n. absurd (n refl);
        saves_flag = λ e n. rw e (refl, flag_set_lem r.saved.timer.0);
        unsaved = λ e. rw e;
      })
      (λ n above other small. absurd (omega arith))
      lba

-- What 0h, 2h and 3h do to a condition that Count names, by FFh or by its own code.
pub selected_follows : (q : Registers) (d : Drive) (z : Record) (i : ℕ) → (bits 3 0 q.lba ≡ 1 → ⊥) → bits 3 0 q.lba ≤ 3
    → i < length d.records → Names (bits 3 0 q.lba) (named q.count) i (get_or d.records i z)
    → Follows (bits 3 0 q.lba) q.lba (get_or d.records i z) (get_or (performed q d).records i z)
selected_follows q d z i other small within names =
    let here = get_or d.records i z in
    rw (selected_changes q d z i (not_goes q.lba other) within (names_selects q.lba (named q.count) i here names))
    (changed_follows q.lba here other small)
