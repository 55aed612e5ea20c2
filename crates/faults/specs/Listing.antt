-- Document 02, request (v): the list of a page's faults, and what is given of it.
use Rattle.std.specs.Prelude.{ℕ, zero, suc, cond, List, [], ◌∷◌, ◌++◌, length}
use Rattle.faults.specs.Tests.{is_fault}
use Rattle.faults.specs.declared.Fault.{Fault}
use Rattle.faults.specs.declared.FaultKind.{FaultKind}
use Rattle.faults.specs.declared.FaultKind.TheVariants.{ReservedWord, ReservedBits, SetUnsupported, NoTimer, SavedOff}
use Rattle.faults.specs.declared.Faults.{Faults}

-- "in the order just named".
abbrev pub kinds : List FaultKind
kinds = ReservedWord ∷ ReservedBits ∷ SetUnsupported ∷ NoTimer ∷ SavedOff ∷ []

-- The faults of these kinds at a word.
abbrev pub faults_among : List FaultKind → List ℕ → ℕ → List Fault
faults_among [] page w = []
faults_among (kind ∷ rest) page w =
    cond (is_fault page kind w) (record { kind = kind; place = w } ∷ faults_among rest page w) (faults_among rest page w)

-- "at one place in the order just named".
unfoldable pub faults_at : List ℕ → ℕ → List Fault
faults_at page w = faults_among kinds page w

-- The faults of n words from w on, word after word: "by place".
unfoldable pub faults_from : List ℕ → ℕ → ℕ → List Fault
faults_from page w zero = []
faults_from page w (suc n) = faults_at page w ++ faults_from page (suc w) n

-- "Every one that applies is listed, by place": of all 256 words.
unfoldable pub faults_of : List ℕ → List Fault
faults_of page = faults_from page 0 256

-- ---- what is given

-- What stands in the places of the list that no fault takes. No page has this fault: word 0 is a recovery time.
abbrev pub blank_fault : Fault
blank_fault = record { kind = ReservedWord; place = 0 }

-- The first so many, with blanks after the last.
unfoldable pub first_with_blanks : ℕ → List Fault → List Fault
first_with_blanks zero l = []
first_with_blanks (suc n) [] = blank_fault ∷ first_with_blanks n []
first_with_blanks (suc n) (f ∷ l) = f ∷ first_with_blanks n l

-- "At most 64 faults are listed, the total is given".
abbrev pub listing : List Fault → Faults
listing l = record { total = length l; listed = first_with_blanks 64 l }
