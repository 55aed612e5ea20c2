-- What is noted of a page, from no fault on, is what is to be given of it: its faults are few, so the total does not wrap.
use Rattle.std.proofs.Common.{◌≡◌, ℕ, List, [], ◌∙◌, arith}
use Rattle.faults.specs.declared.Faults.{Faults}
use Rattle.faults.specs.Inner.{noted}
use Rattle.faults.specs.Listing.{faults_of, listing}
use Rattle.faults.proofs.Noted.{noted_listing}
use Rattle.faults.proofs.Order.{at_most}

pub gathered_given : (page : List ℕ) (g : Faults) → g ≡ noted (listing []) (faults_of page) → g ≡ listing (faults_of page)
gathered_given page g e = let few = at_most page in e ∙ noted_listing [] (faults_of page) (omega arith)
