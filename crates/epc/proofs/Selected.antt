-- Document 02, request (iv): what FFh asks of the conditions, and what becomes of each. Whether FFh is accepted is read off the law on any Count
-- (Exactly). At a place that it selects the condition's own Count selects too, and what is done to a record hangs on whether it is selected, not by which
-- Count.
use mathlib.Core.Path.{◌≡◌, refl, sym, subst, ◌∙◌}
use mathlib.Core.Bool.{Bool, true, false, ◌&&◌, true≢false}
use mathlib.Core.List.{List}
use mathlib.Core.Logic.{◌↔◌}
use Prim.Native.Nat.{ℕ, ◌<◌}
use lib.ListN.{length, get_or}
use borrow.Author.Tests.{eq-eqb}
use Rattle.rows.proofs.Choices.{chosen}
use Rattle.rows.proofs.Mapped.{place_kept}
use Rattle.rows.proofs.Places.{and_both, get_d_map_at}
use Rattle.conditions.specs.Conditions.{place_of}
use Rattle.conditions.specs.declared.Condition.{Condition}
use Rattle.drive.specs.declared.Edition.{Edition}
use Rattle.drive.specs.declared.Record.{Record}
use Rattle.drive.specs.declared.Drive.{Drive}
use Rattle.bits.specs.Bits.{bits, bit}
use Rattle.registers.specs.Commands.{ata_command, count_code, named}
use Rattle.registers.specs.declared.Registers.{Registers}
use Rattle.registers.specs.declared.Named.{Named}
use Rattle.registers.specs.declared.Named.TheVariants.{Every}
use Rattle.registers.proofs.Codes.{code_names}
use Rattle.epc.specs.Epc.{sub_of, selects, is_go_to, changed, changed_at, aborts, performed}
use Rattle.epc.specs.declared.Sub.{Sub}
use Rattle.epc.proofs.Effects.{records_after}
use Rattle.epc.proofs.Exactly.{Names, Allows, Reads, Accepted, goes_one, not_goes, selects_names, accepted_exactly}

-- ---- when FFh is accepted

-- Some condition is "supported and changeable", and "With bit 4" each one that is so is saveable. No other condition has a say.
pub record EveryFits (lba : ℕ) (rs : List Record) (z : Record) : Type 0 where
  pub place : ℕ
  pub within : place < length rs
  pub supported : (get_or rs place z).supported ≡ true
  pub changeable : (get_or rs place z).changeable ≡ true
  pub saveable : bit 4 lba ≡ true → (i : ℕ) → i < length rs → (get_or rs i z).supported ≡ true → (get_or rs i z).changeable ≡ true → (get_or rs i z).saveable ≡ true

module _ (ed : Edition) (q : Registers) (rs : List Record) (z : Record) (all : named q.count ≡ Every) where
  abbrev number : ℕ
  number = bits 3 0 q.lba

  -- what Count names is what FFh names
  named_all : (i : ℕ) (r : Record) → Names number (named q.count) i r → Names number Every i r
  named_all i r = subst (λ (n : Named). Names number n i r) all

  all_named : (i : ℕ) (r : Record) → Names number Every i r → Names number (named q.count) i r
  all_named i r = subst (λ (n : Named). Names number n i r) (sym all)

  -- "For subcommands 0h, 2h and 3h FFh now selects the supported and changeable conditions, and aborts if there are none. With bit 4, any selected one
  -- that isn't saveable still aborts everything."
  pub every_exactly : (aborts ed q rs ≡ false) ↔ (Reads ed q × (number ≡ 1 → ⊥) × EveryFits q.lba rs z)
  every_exactly = (λ h. fits ((accepted_exactly ed q rs z).0 h), λ h. (accepted_exactly ed q rs z).1 (allowed h.0 h.1 h.2))
    where
      fits : Accepted ed q rs z → Reads ed q × (number ≡ 1 → ⊥) × EveryFits q.lba rs z
      fits a =
          let other : number ≡ 1 → ⊥ = λ one. a.one one all in
          let one = named_all a.place (get_or rs a.place z) a.names in (
            a.reads,
            other,
            record {
              place = a.place;
              within = a.within;
              supported = one.0;
              changeable = one.1 other;
              saveable = λ saves i k sup chg. (a.allow i k (all_named i (get_or rs i z) (sup, λ _. chg))).saveable saves;
            },
          )

      allowed : Reads ed q → (number ≡ 1 → ⊥) → EveryFits q.lba rs z → Accepted ed q rs z
      allowed reads other f = record {
        reads = reads;
        place = f.place;
        within = f.within;
        names = all_named f.place (get_or rs f.place z) (f.supported, λ _. f.changeable);
        one = λ one _. other one;
        allow = λ i k n. let here = named_all i (get_or rs i z) n in
            record { supported = here.0; changeable = here.1; saveable = λ saves. f.saveable saves i k here.0 (here.1 other) };
      }

-- ---- what an accepted subcommand does at a place

module _ (q : Registers) (d : Drive) (z : Record) (i : ℕ) where
  abbrev sub : Sub
  sub = sub_of q.lba

  abbrev here : Record
  here = get_or d.records i z

  -- A condition that is selected is changed by the subcommand's row,
  pub selected_changes : is_go_to sub ≡ false → i < length d.records → selects sub (named q.count) i here ≡ true
      → get_or (performed q d).records i z ≡ changed sub q.lba here
  selected_changes other within e = rw (records_after q d, other, get_d_map_at (changed_at q) d.records z z i within, e)

  -- and one that is not keeps its record.
  pub unselected_stays : selects sub (named q.count) i here ≡ false → get_or (performed q d).records i z ≡ here
  unselected_stays e =
      rw (records_after q d)
      (chosen (λ (l : List Record). get_or l i z ≡ here) (is_go_to sub) _ _ (λ _. refl) (λ _. place_kept (changed_at q) d.records i z (rw e)))

  -- A condition that is not changeable keeps its record through every subcommand that is accepted, whatever Count names.
  pub unchangeable_stays : (ed : Edition) → aborts ed q d.records ≡ false → i < length d.records → here.changeable ≡ false
      → get_or (performed q d).records i z ≡ here
  unchangeable_stays ed accepted within fixed = on (is_go_to sub) refl (selects sub (named q.count) i here) refl
    where
      on : (goes : Bool) → is_go_to sub ≡ goes → (selected : Bool) → selects sub (named q.count) i here ≡ selected
          → get_or (performed q d).records i z ≡ here
      on true g selected e = rw (records_after q d, g)
      on false g false e = unselected_stays e
      on false g true e =
          let own = ((accepted_exactly ed q d.records z).0 accepted).allow i within (selects_names q.lba (named q.count) i here e) in
          let other : bits 3 0 q.lba ≡ 1 → ⊥ = λ one. true≢false (sym (goes_one q.lba ∙ eq-eqb _ _ one) ∙ g) in
          absurd (true≢false (sym (own.changeable other) ∙ fixed))

-- ---- "FFh": each as its own single Count

-- The same registers with Count naming this condition alone.
abbrev pub alone : Condition → Registers → Registers
alone c q = ata_command q.command q.feature (count_code c) q.lba

-- a condition's own code names its place and no other
named_own : (number : ℕ) (c : Condition) (i : ℕ) (r : Record) → Names number (named (count_code c)) i r → i ≡ place_of c
named_own number c i r = subst (λ (n : Named). Names number n i r) (code_names c)

own_named : (number : ℕ) (c : Condition) (r : Record) → Names number (named (count_code c)) (place_of c) r
own_named number c r = subst (λ (n : Named). Names number n (place_of c) r) (sym (code_names c)) refl

module _ (ed : Edition) (q : Registers) (d : Drive) (z : Record) (all : named q.count ≡ Every) (accepted : aborts ed q d.records ≡ false) where
  abbrev Fit : Type 0
  Fit = Reads ed q × (bits 3 0 q.lba ≡ 1 → ⊥) × EveryFits q.lba d.records z

  fit : Fit
  fit = (every_exactly ed q d.records z all).0 accepted

  -- A condition that an accepted FFh selects: its own Count is accepted too, and leaves it the same.
  pub as_alone : (c : Condition) → place_of c < length d.records
      → (get_or d.records (place_of c) z).supported ≡ true → (get_or d.records (place_of c) z).changeable ≡ true
      → (aborts ed (alone c q) d.records ≡ false)
      × (get_or (performed q d).records (place_of c) z ≡ get_or (performed (alone c q) d).records (place_of c) z)
  as_alone c within sup chg = (
    (accepted_exactly ed (alone c q) d.records z).1 accepted_alone,
    selected_changes q d z (place_of c) other within (rw (all, sup, chg, other))
        ∙ sym (selected_changes (alone c q) d z (place_of c) other within (rw (code_names c, eq-eqb (place_of c) (place_of c) refl))),
  )
    where
      other : is_go_to (sub_of q.lba) ≡ false
      other = not_goes q.lba fit.1

      allows : Allows q.lba (get_or d.records (place_of c) z)
      allows = record { supported = sup; changeable = λ _. chg; saveable = λ saves. fit.2.saveable saves (place_of c) within sup chg }

      accepted_alone : Accepted ed (alone c q) d.records z
      accepted_alone = record {
        reads = record {
          command = fit.0.command;
          feature = fit.0.feature;
          number = fit.0.number;
          reserved = fit.0.reserved;
        };
        place = place_of c;
        within = within;
        names = own_named (bits 3 0 q.lba) c (get_or d.records (place_of c) z);
        one = λ one _. fit.1 one;
        allow = λ i k n. subst (λ (j : ℕ). Allows q.lba (get_or d.records j z)) (sym (named_own (bits 3 0 q.lba) c i (get_or d.records i z) n)) allows;
      }

  -- One that it does not select is not "supported and changeable", and its own Count aborts.
  pub alone_aborts : (c : Condition) → place_of c < length d.records
      → ((get_or d.records (place_of c) z).supported && (get_or d.records (place_of c) z).changeable) ≡ false → aborts ed (alone c q) d.records ≡ true
  alone_aborts c within e = on (aborts ed (alone c q) d.records) refl
    where
      on : (b : Bool) → aborts ed (alone c q) d.records ≡ b → b ≡ true
      on true h = refl
      on false h =
          let here = own_named (bits 3 0 q.lba) c (get_or d.records (place_of c) z) in
          let own = ((accepted_exactly ed (alone c q) d.records z).0 h).allow (place_of c) within here in
          absurd (true≢false (sym (and_both _ _ own.supported (own.changeable fit.1)) ∙ e))

  -- It keeps its record.
  pub others_spared : (i : ℕ) → ((get_or d.records i z).supported && (get_or d.records i z).changeable) ≡ false
      → get_or (performed q d).records i z ≡ get_or d.records i z
  others_spared i e = unselected_stays q d z i (rw (all, not_goes q.lba fit.1) e)
