-- Every public call has one possible result, record and buffer for each input: any two that its promise allows are equal. Each promise says
-- what definition the result equals (the record is in it), and what a lent buffer holds at exit; two values that equal a third are equal.
use mathlib.Core.Path.{◌≡◌, sym, ◌∙◌}
use mathlib.Core.List.{List}
use Prim.Native.Nat.{ℕ}
use mathlib.Core.Logic.{◌↔◌}
use Rattle.conditions.specs.Conditions.{condition_at}
use Rattle.reader.specs.PageCalls.{record_outcome, faults_outcome}
use Rattle.engine.proofs.manufacture.Reads as manufacture
use Rattle.engine.proofs.set_features.Reads as set-features
use Rattle.engine.proofs.tick.Reads as tick
use Rattle.engine.proofs.read.Reads as read
use Rattle.engine.proofs.write.Reads as write
use Rattle.engine.proofs.power_on.Reads as power-on
use Rattle.engine.proofs.hard_reset.Reads as hard-reset
use Rattle.engine.proofs.soft_reset.Reads as soft-reset
use Rattle.bridge.proofs.start_stop_unit.Reads as start-stop-unit
use Rattle.exchange.proofs.next_command.Reads as next-command
use Rattle.exchange.proofs.answer.Reads as answer
use Rattle.readouts.proofs.request_sense.Reads as request-sense
use Rattle.readouts.proofs.log_page.Reads as log-page
use Rattle.readouts.proofs.new_page.Reads as new-page
use Rattle.readouts.proofs.transitions_page.Reads as transitions-page
use Rattle.readouts.proofs.transition_counts.Reads as transition-counts
use Rattle.reader.proofs.page_record.Reads as page-record
use Rattle.reader.proofs.page_faults.Reads as page-faults
use Rattle.reader.proofs.open_page.Reads as open-page
use Rattle.reader.proofs.read_record.Reads as read-record
use Rattle.reader.proofs.read_faults.Reads as read-faults
use Rattle.faults.proofs.kind_number.Reads as kind-number
use Rattle.faults.proofs.listed_count.Reads as listed-count
use Rattle.conditions.proofs.place_of.Reads as place_of
use Rattle.refusals.proofs.number.Reads as number
use Rattle.refusals.proofs.sense_of.Reads as sense-of

same : {A : Type 0} {x y z : A} → x ≡ z → y ≡ z → x ≡ y
same p q = p ∙ sym q

-- A function's contract, read as plain facts: `Asked` is its `requires`, of the arguments a; `Post` its `ensures`, of the arguments, the result and
-- the parameters at exit. κs are its lifetimes.
module _ {L : Type 0} {Args : L → Type 0} where
  -- It has no `requires`: any arguments will do.
  abbrev pub AsksNothing : ((κs : L) → Args κs → Type 0) → Type 0
  AsksNothing Asked = (κs : L) (a : Args κs) → Asked κs a

  module _ {Result Exit : L → Type 0} (Post : (κs : L) → Args κs → Result κs → Exit κs → Type 0) where
    -- Any two results that the promise allows for the same arguments are equal.
    abbrev pub OneResult : Type 0
    OneResult = (κs : L) (a : Args κs) (x y : Result κs) (s t : Exit κs) → Post κs a x s → Post κs a y t → x ≡ y

    -- And so are any two contents at exit of the buffer that it is lent.
    abbrev pub OneBuffer : ((κs : L) → Exit κs → List ℕ) → Type 0
    OneBuffer buffer =
        (κs : L) (a : Args κs) (x y : Result κs) (s t : Exit κs) → Post κs a x s → Post κs a y t → buffer κs s ≡ buffer κs t

-- ---- "Conditions and settings"

pub one_manufacture : AsksNothing manufacture.Asked × OneResult manufacture.Post
one_manufacture = (λ κs a. tt, λ κs a x y s t. same)

pub one_place_of : AsksNothing place_of.Asked × OneResult place_of.Post
one_place_of = (λ κs a. tt, λ κs a x y s t p q. same p.0 q.0)

-- ---- "EPC registers"

pub one_set_features : AsksNothing set-features.Asked × OneResult set-features.Post
one_set_features = (λ κs a. tt, λ κs a x y s t. same)

-- ---- "Ticks, medium calls, resets"

pub one_tick : AsksNothing tick.Asked × OneResult tick.Post
one_tick = (λ κs a. tt, λ κs a x y s t. same)

pub one_read : AsksNothing read.Asked × OneResult read.Post
one_read = (λ κs a. tt, λ κs a x y s t. same)

pub one_write : AsksNothing write.Asked × OneResult write.Post
one_write = (λ κs a. tt, λ κs a x y s t. same)

pub one_power_on : AsksNothing power-on.Asked × OneResult power-on.Post
one_power_on = (λ κs a. tt, λ κs a x y s t. same)

pub one_hard_reset : AsksNothing hard-reset.Asked × OneResult hard-reset.Post
one_hard_reset = (λ κs a. tt, λ κs a x y s t. same)

pub one_soft_reset : AsksNothing soft-reset.Asked × OneResult soft-reset.Post
one_soft_reset = (λ κs a. tt, λ κs a x y s t. same)

-- ---- "START STOP UNIT"

pub one_start_stop_unit : AsksNothing start-stop-unit.Asked × OneResult start-stop-unit.Post
one_start_stop_unit = (λ κs a. tt, λ κs a x y s t. same)

pub one_next_command : AsksNothing next-command.Asked × OneResult next-command.Post
one_next_command = (λ κs a. tt, λ κs a x y s t. same)

pub one_answer : AsksNothing answer.Asked × OneResult answer.Post
one_answer = (λ κs a. tt, λ κs a x y s t. same)

-- ---- "Sense and log bytes"

pub one_request_sense : AsksNothing request-sense.Asked × OneResult request-sense.Post × OneBuffer request-sense.Post (λ κs s. s.1.1.0.now)
one_request_sense = (λ κs a. tt, λ κs a x y s t p q. same p.0 q.0, λ κs a x y s t p q. same p.1 q.1)

pub one_log_page : AsksNothing log-page.Asked × OneResult log-page.Post × OneBuffer log-page.Post (λ κs s. s.1.0.now)
one_log_page = (λ κs a. tt, λ κs a x y s t p q. same p.0 q.0, λ κs a x y s t p q. same p.1 q.1)

-- ---- document 02, request (i)

pub one_transitions_page : AsksNothing transitions-page.Asked × OneResult transitions-page.Post × OneBuffer transitions-page.Post (λ κs s. s.1.0.now)
one_transitions_page = (λ κs a. tt, λ κs a x y s t p q. same p.0 q.0, λ κs a x y s t p q. same p.1 q.1)

pub one_transition_counts : AsksNothing transition-counts.Asked × OneResult transition-counts.Post
one_transition_counts = (λ κs a. tt, λ κs a x y s t. same)

-- ---- document 02, request (vi)

pub one_new_page : AsksNothing new-page.Asked × OneResult new-page.Post × OneBuffer new-page.Post (λ κs s. s.1.1.0.now)
one_new_page = (λ κs a. tt, λ κs a x y s t p q. same p.0 q.0, λ κs a x y s t p q. same p.1 q.1)

-- ---- document 02, request (v); of the functions on a reader also what they promise: a reader of the lent page and that place, and of what it holds what
-- the calls on a page give

pub one_open_page : AsksNothing open-page.Asked × OneResult open-page.Post
    × ((κs : _) (a : _) (x : _) (s : _) → open-page.Post κs a x s ↔ ((x.page ≡ a.0) × (x.place ≡ a.1.0)))
one_open_page = (λ κs a. tt, λ κs a x y s t p q. λ i. record { page = same p.0 q.0 i; place = same p.1 q.1 i }, λ κs a x s. (λ p. p, λ p. p))

pub one_read_record : AsksNothing read-record.Asked × OneResult read-record.Post
    × ((κs : _) (a : _) (x : _) (s : _) → read-record.Post κs a x s ↔ (x ≡ record_outcome a.0.page.now (condition_at a.0.place)))
one_read_record = (λ κs a. tt, λ κs a x y s t. same, λ κs a x s. (λ p. p, λ p. p))

pub one_read_faults : AsksNothing read-faults.Asked × OneResult read-faults.Post
    × ((κs : _) (a : _) (x : _) (s : _) → read-faults.Post κs a x s ↔ (x ≡ faults_outcome a.0.page.now))
one_read_faults = (λ κs a. tt, λ κs a x y s t. same, λ κs a x s. (λ p. p, λ p. p))

pub one_page_record : AsksNothing page-record.Asked × OneResult page-record.Post
one_page_record = (λ κs a. tt, λ κs a x y s t. same)

pub one_page_faults : AsksNothing page-faults.Asked × OneResult page-faults.Post
one_page_faults = (λ κs a. tt, λ κs a x y s t. same)

pub one_listed_count : AsksNothing listed-count.Asked × OneResult listed-count.Post
one_listed_count = (λ κs a. tt, λ κs a x y s t p q. same p.0 q.0)

pub one_kind_number : AsksNothing kind-number.Asked × OneResult kind-number.Post
one_kind_number = (λ κs a. tt, λ κs a x y s t. same)

-- ---- "Numbers given back"

pub one_number : AsksNothing number.Asked × OneResult number.Post
one_number = (λ κs a. tt, λ κs a x y s t. same)

pub one_sense_of : AsksNothing sense-of.Asked × OneResult sense-of.Post
one_sense_of = (λ κs a. tt, λ κs a x y s t. same)
