-- Names for what the inner functions promise: the list as the code comes by it, fault by fault. Nothing outside this crate cites them.
use Rattle.std.specs.Prelude.{ℕ, zero, suc, ◌+◌, ◌%◌, ◌^◌, Bool, cond, not, List, [], ◌∷◌, ◌++◌, ◌==◌, nat_lt, slice_set}
use Rattle.bits.specs.Bits.{some_one}
use Rattle.drive.specs.declared.Setting.{Setting}
use Rattle.drive.specs.declared.Record.{Record}
use Rattle.pages.specs.Readings.{page_word}
use Rattle.faults.specs.Tests.{is_set_unsupported, enabled_without_timer, is_saved_off}
use Rattle.faults.specs.declared.Fault.{Fault}
use Rattle.faults.specs.declared.Faults.{Faults}
use Rattle.faults.specs.declared.FaultKind.{FaultKind}
use Rattle.faults.specs.declared.FaultKind.TheVariants.{ReservedWord, ReservedBits, SetUnsupported, NoTimer, SavedOff}

-- ---- the list as it is lent

-- One more: the place after the last takes it, if that is one of the 64. A page has far fewer faults than 2 ^ 32.
abbrev pub added : Faults → Fault → Faults
added l x = record { total = (l.total + 1) % 2 ^ 32; listed = cond (nat_lt l.total 64) (slice_set l.listed l.total x) l.listed }

-- One more, if it applies.
abbrev pub added_if : Bool → FaultKind → ℕ → List Fault → List Fault
added_if applies kind w l = cond applies (record { kind = kind; place = w } ∷ l) l

-- Some more, in their order.
unfoldable pub noted : Faults → List Fault → Faults
noted l [] = l
noted l (x ∷ more) = noted (added l x) more

-- ---- the faults of a condition's words, as the code looks for them

-- At +1, of the record r.
abbrev pub head_faults : List ℕ → ℕ → Record → List Fault
head_faults page w r = added_if (some_one 12 0 (page_word page w)) ReservedBits w [] ++ added_if (is_set_unsupported r) SetUnsupported w []

-- At the flag word of the setting s, but for kind 4.
abbrev pub setting_faults : List ℕ → ℕ → Setting → List Fault
setting_faults page w s = added_if (some_one 14 0 (page_word page w)) ReservedBits w [] ++ added_if (enabled_without_timer s) NoTimer w []

-- At +0 to +7 of a condition whose words begin at w and say r.
abbrev pub named_faults : List ℕ → ℕ → Record → List Fault
named_faults page w r =
    head_faults page (w + 1) r
    ++ (setting_faults page (w + 2) r.default
    ++ (setting_faults page (w + 4) r.saved ++ (added_if (is_saved_off r) SavedOff (w + 4) [] ++ setting_faults page (w + 6) r.current)))

-- ---- reserved words

-- Of n words from w on, those that are not zero.
unfoldable pub nonzero_from : List ℕ → ℕ → ℕ → List Fault
nonzero_from page w zero = []
nonzero_from page w (suc n) = added_if (not (page_word page w == 0)) ReservedWord w [] ++ nonzero_from page (suc w) n
