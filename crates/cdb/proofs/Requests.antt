-- "a waiting request is one START STOP accepts": a request is well formed exactly if some CDB asks for it and is listed.
-- A CDB is written from its fields and read back by arithmetic, over all fields at once; what the fields say is the table of document 01.
use Rattle.std.proofs.Common.{Some, None, Option}
use mathlib.Core.Path.{◌≡◌, refl, ap, sym, ◌∙◌}
use mathlib.Core.Bool.{Bool, true, false, not, false≢true}
use mathlib.Core.List.{List, [], ◌∷◌}
use mathlib.Core.Logic.{◌↔◌}
use Prim.Native.Nat.{ℕ, ◌+◌, ◌*◌, ◌<◌}
use native.Mathlib.Omega.{arith}
use lib.Dec.{eqb, ltb}
use lib.ListN.{length}
use borrow.Author.Tests.{lt-ltb, not-true}
use Rattle.rows.specs.Rows.{every_at}
use Rattle.rows.proofs.Places.{and_left, and_right}
use Rattle.conditions.specs.declared.Condition.TheVariants.{IdleA, IdleB, IdleC, StandbyY, StandbyZ}
use Rattle.drive.specs.declared.Record.{Record}
use Rattle.bits.specs.Bits.{bits}
use Rattle.requests.specs.Requests.{request_well_formed}
use Rattle.requests.specs.declared.Target.{Target}
use Rattle.requests.specs.declared.Target.TheVariants.{Stop, Start, GoTo}
use Rattle.requests.specs.declared.Stage.{Stage}
use Rattle.requests.specs.declared.Stage.TheVariants.{Straight, Flushing}
use Rattle.requests.specs.declared.Request.{Request}
use Rattle.cdb.specs.Cdb.{byte, immed, modifier, power_condition, no_flush, loej, start, reserved_in_cdb, decided, wanted, fits, is_listed, stage_for, request_for}
use Rattle.cdb.proofs.Decision.{number_for, modifier_for, start_for, asked_decides}

-- ---- a CDB that is accepted

fits_request : (rs : List Record) (t : Target) (without : Bool) → fits rs (Some t) ≡ true → request_well_formed rs t (stage_for t without) ≡ true
fits_request rs Stop without h = refl
fits_request rs Start without h = refl
fits_request rs (GoTo c) without h = h

-- The request of every CDB that is listed is well formed.
pub listed_request : (rs : List Record) (cdb : List ℕ) (t : Target) → is_listed rs cdb ≡ true → wanted cdb ≡ Some t
    → request_well_formed rs t (stage_for t (no_flush cdb)) ≡ true
unfolding is_listed
listed_request rs cdb t h w =
    fits_request rs t (no_flush cdb) (rw w at (and_right (not (reserved_in_cdb cdb)) (fits rs (wanted cdb)) h))

-- A CDB is listed if no reserved bit is one and what it asks for fits; and then no reserved bit is.
pub listed_when : (rs : List Record) (cdb : List ℕ) (t : Target) → reserved_in_cdb cdb ≡ false → wanted cdb ≡ Some t → fits rs (Some t) ≡ true
    → is_listed rs cdb ≡ true
unfolding is_listed
listed_when rs cdb t none wants ok = rw (none, wants) ok

pub listed_unreserved : (rs : List Record) (cdb : List ℕ) → is_listed rs cdb ≡ true → reserved_in_cdb cdb ≡ false
unfolding is_listed
listed_unreserved rs cdb h = not-true _ (and_left (not (reserved_in_cdb cdb)) _ h)

-- What fits is a target.
pub fitting : (rs : List Record) (w : Option Target) → fits rs w ≡ true → (t : Target) × (w ≡ Some t) × (fits rs (Some t) ≡ true)
fitting rs None h = absurd (false≢true h)
fitting rs (Some t) h = (t, refl, h)

-- What a listed CDB asks for fits.
pub listed_fits : (rs : List Record) (cdb : List ℕ) → is_listed rs cdb ≡ true → fits rs (wanted cdb) ≡ true
unfolding is_listed
listed_fits rs cdb h = and_right (not (reserved_in_cdb cdb)) _ h

-- ---- a CDB written from its fields

abbrev flag : Bool → ℕ
flag true = 1
flag false = 0

flag_small : (b : Bool) → flag b < 2
flag_small true = omega arith
flag_small false = omega arith

flag_read : (b : Bool) → not (eqb (flag b) 0) ≡ b
flag_read true = refl
flag_read false = refl

-- IMMED, the modifier, the power condition, NO_FLUSH and START; LOEJ, the reserved bits and byte 5 are zero.
abbrev cdb_of : Bool → ℕ → ℕ → Bool → Bool → List ℕ
cdb_of immediate m number without starts =
    0x1B ∷ flag immediate ∷ 0 ∷ m ∷ (number * 16 + flag without * 4 + flag starts) ∷ 0 ∷ []

module _ (immediate : Bool) (m number : ℕ) (without starts : Bool) (m-small : m < 16) (number_small : number < 16) where
  abbrev cdb : List ℕ
  cdb = cdb_of immediate m number without starts

  read_immed : immed cdb ≡ immediate
  read_immed =
      let e : bits 0 0 (flag immediate) ≡ flag immediate = omega (arith, flag_small immediate) in
      rw (e, flag_read immediate)

  read_modifier : modifier cdb ≡ m
  read_modifier = omega arith

  read_number : power_condition cdb ≡ number
  read_number = omega (arith, flag_small without, flag_small starts)

  read_no_flush : no_flush cdb ≡ without
  read_no_flush =
      let e : bits 2 2 (byte 4 cdb) ≡ flag without = omega (arith, flag_small without, flag_small starts) in
      rw (e, flag_read without)

  read_loej : loej cdb ≡ false
  read_loej =
      let e : bits 1 1 (byte 4 cdb) ≡ 0 = omega (arith, flag_small without, flag_small starts) in
      rw e

  read_start : start cdb ≡ starts
  read_start =
      let e : bits 0 0 (byte 4 cdb) ≡ flag starts = omega (arith, flag_small without, flag_small starts) in
      rw (e, flag_read starts)

  read_wanted : wanted cdb ≡ decided number m false starts
  unfolding wanted
  read_wanted = rw (read_number, read_modifier, read_loej, read_start)

  none_reserved : reserved_in_cdb cdb ≡ false
  none_reserved =
      let one : bits 7 1 (byte 1 cdb) ≡ 0 = omega (arith, flag_small immediate) in
      let three : bits 7 4 (byte 3 cdb) ≡ 0 = omega arith in
      let four : bits 3 3 (byte 4 cdb) ≡ 0 = omega (arith, flag_small without, flag_small starts) in
      rw (one, three, four)

-- ---- the CDB of a request

-- The fields fit their bits.
fields_fit : (t : Target) → (modifier_for t < 16) × (number_for t < 16)
fields_fit Stop = omega arith
fields_fit Start = omega arith
fields_fit (GoTo IdleA) = omega arith
fields_fit (GoTo IdleB) = omega arith
fields_fit (GoTo IdleC) = omega arith
fields_fit (GoTo StandbyY) = omega arith
fields_fit (GoTo StandbyZ) = omega arith

abbrev is_straight : Stage → Bool
is_straight Straight = true
is_straight (Flushing n) = false

-- A CDB that asks for a request: NO_FLUSH for one that sends no flush.
abbrev pub cdb_for : Request → List ℕ
cdb_for q = cdb_of q.immed (modifier_for q.target) (number_for q.target) (is_straight q.stage) (start_for q.target)

-- A request as it was accepted: no flush is answered yet.
abbrev pub begun_stage : Stage → Stage
begun_stage Straight = Straight
begun_stage (Flushing n) = Flushing 0

abbrev pub begun : Request → Request
begun q = record { target = q.target; immed = q.immed; stage = begun_stage q.stage }

-- START STOP UNIT accepts the CDB, on these records, as this request; the request's count of answered flushes came later.
pub record AskedBy (rs : List Record) (q : Request) (cdb : List ℕ) : Type 0 where
  pub six : length cdb ≡ 6
  pub bytes : every_at (λ at b. ltb b 256) 0 cdb ≡ true
  pub opcode : byte 0 cdb ≡ 0x1B
  pub listed : is_listed rs cdb ≡ true
  pub wants : wanted cdb ≡ Some q.target
  pub request : request_for q.target cdb ≡ begun q

-- A well-formed request's target fits the unit.
pub request_fits : (rs : List Record) (t : Target) (stage : Stage) → request_well_formed rs t stage ≡ true → fits rs (Some t) ≡ true
request_fits rs Stop stage h = refl
request_fits rs Start stage h = refl
request_fits rs (GoTo c) stage h = h

stage_begun : (rs : List Record) (t : Target) (stage : Stage) → request_well_formed rs t stage ≡ true → stage_for t (is_straight stage) ≡ begun_stage stage
stage_begun rs Stop Straight h = refl
stage_begun rs Stop (Flushing n) h = refl
stage_begun rs Start Straight h = refl
stage_begun rs Start (Flushing n) h = absurd (false≢true h)
stage_begun rs (GoTo c) Straight h = refl
stage_begun rs (GoTo c) (Flushing n) h = refl

count_free : (rs : List Record) (t : Target) (stage : Stage) → request_well_formed rs t (begun_stage stage) ≡ request_well_formed rs t stage
count_free rs Stop stage = refl
count_free rs Start Straight = refl
count_free rs Start (Flushing n) = refl
count_free rs (GoTo c) stage = refl

-- A well-formed request is one that a CDB asks for, but for its count of answered flushes.
pub request_asked : (rs : List Record) (q : Request) → request_well_formed rs q.target q.stage ≡ true → AskedBy rs q (cdb_for q)
unfolding is_listed
request_asked rs q h =
    let t = q.target in
    let d = fields_fit t in
    let m = modifier_for t in
    let n = number_for t in
    let f = is_straight q.stage in
    let s = start_for t in
    let asks : wanted (cdb_for q) ≡ Some t = read_wanted q.immed m n f s d.0 d.1 ∙ asked_decides t false s (λ z. (refl, refl)) in
    record {
      six = refl;
      bytes = rw (
        lt-ltb (flag q.immed) 256 (omega (arith, flag_small q.immed)),
        lt-ltb m 256 (omega arith),
        lt-ltb (n * 16 + flag f * 4 + flag s) 256 (omega (arith, flag_small f, flag_small s)),
      );
      opcode = refl;
      listed = rw (none_reserved q.immed m n f s d.0 d.1, asks) (request_fits rs t q.stage h);
      wants = asks;
      request = rw (read_immed q.immed m n f s d.0 d.1, read_no_flush q.immed m n f s d.0 d.1, stage_begun rs t q.stage h);
    }

-- "a waiting request is one START STOP accepts": well formed exactly if some CDB is accepted as this request.
pub request_accepted : (rs : List Record) (q : Request) → (request_well_formed rs q.target q.stage ≡ true) ↔ ((cdb : List ℕ) × AskedBy rs q cdb)
request_accepted rs q = (
  λ h. (cdb_for q, request_asked rs q h),
  λ a. sym (count_free rs q.target q.stage) ∙ ap (λ (r : Request). request_well_formed rs q.target r.stage) (sym a.1.request)
      ∙ listed_request rs a.0 q.target a.1.listed a.1.wants,
)
