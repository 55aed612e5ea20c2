-- A copy of a record's named bytes into zeros makes its descriptor there: so the copies that the code makes, one behind the other, are the two pages.
use mathlib.Core.Path.{◌≡◌, refl, sym, ap, ap₂, ◌∙◌}
use mathlib.Core.List.{List, [], ◌++◌, append-nil, append_assoc}
use Prim.Native.Nat.{ℕ, ◌+◌, ◌-◌}
use native.Mathlib.Omega.{arith}
use lib.ListN.{length, get_or, drop, replicate, length-append, length-replicate, replicate-append-replicate}
use lib.Seq.{paste}
use Rattle.drive.specs.declared.Record.{Record}
use Rattle.drive.specs.Records.{unsupported}
use Rattle.pages.proofs.Bytes.{drop-replicate, paste_after}
use Rattle.published.specs.Descriptors.{named_bytes, descriptor, descriptor_page}

-- "64-byte descriptors".
pub descriptor_64 : (r : Record) → length (descriptor r) ≡ 64
unfolding descriptor
descriptor_64 r = refl

abbrev copied : List ℕ → ℕ → List ℕ → List ℕ
copied page at s = paste page at s (length s)

-- The named bytes of a record copied behind a first part, where zeros stand.
copied_behind : (p : List ℕ) (at rest : ℕ) (r : Record) → length p ≡ at
    → copied (p ++ replicate (64 + rest) 0) at (named_bytes r) ≡ p ++ descriptor r ++ replicate rest 0
unfolding descriptor
copied_behind p at rest r e =
    let left : 64 + rest - 20 ≡ 44 + rest = omega arith in
    let zeros : drop {A = ℕ} 20 (replicate (64 + rest) 0) ≡ replicate 44 0 ++ replicate rest 0 =
    drop-replicate 20 (64 + rest) 0 ∙ rw left (sym (replicate-append-replicate 44 rest 0)) in
    paste_after p (replicate (64 + rest) 0) (named_bytes r) at e
    ∙ rw (zeros, append_assoc p (named_bytes r), append_assoc p (descriptor r), append_assoc (named_bytes r) (replicate 44 0) (replicate rest 0))

module _ (rs : List Record) where
  abbrev nth : ℕ → Record
  nth i = get_or rs i unsupported

  -- Three copies make page 0,
  pub idle_copies : (p q a b c : List ℕ) → a ≡ named_bytes (nth 0) → b ≡ named_bytes (nth 1) → c ≡ named_bytes (nth 2)
      → p ≡ copied (replicate 512 0) 0 a → q ≡ copied p 64 b → copied q 128 c ≡ descriptor_page 0 rs
  unfolding descriptor_page
  idle_copies p q a b c ea eb ec ep eq =
      let first : p ≡ descriptor (nth 0) ++ replicate 448 0 = ep ∙ ap (copied (replicate 512 0) 0) ea ∙ copied_behind [] 0 448 (nth 0) refl in
      let second : q ≡ descriptor (nth 0) ++ descriptor (nth 1) ++ replicate 384 0 =
      eq ∙ ap₂ (λ p b. copied p 64 b) first eb ∙ copied_behind (descriptor (nth 0)) 64 384 (nth 1) (descriptor_64 (nth 0)) in
      ap₂ (λ q c. copied q 128 c) second ec
      ∙ copied_behind (descriptor (nth 0) ++ descriptor (nth 1)) 128 320 (nth 2)
      (rw (length-append, descriptor_64 (nth 0), descriptor_64 (nth 1)))

  -- and two page 1.
  pub standby_copies : (p y z : List ℕ) → y ≡ named_bytes (nth 3) → z ≡ named_bytes (nth 4)
      → p ≡ copied (replicate 512 0) 384 y → copied p 448 z ≡ descriptor_page 1 rs
  unfolding descriptor_page
  standby_copies p y z ey ez ep =
      let front : List ℕ = replicate 384 0 in
      let zeros : replicate {A = ℕ} 512 0 ≡ front ++ replicate 128 0 = sym (replicate-append-replicate 384 128 0) in
      let first : p ≡ front ++ descriptor (nth 3) ++ replicate 64 0 =
      ep ∙ ap₂ (λ p y. copied p 384 y) zeros ey ∙ copied_behind front 384 64 (nth 3) (length-replicate {A = ℕ} 384 0) in
      ap₂ (λ p z. copied p 448 z) first ez
      ∙ copied_behind (front ++ descriptor (nth 3)) 448 0 (nth 4) (rw (length-append, length-replicate, descriptor_64 (nth 3)))
      ∙ append-nil (front ++ descriptor (nth 3) ++ descriptor (nth 4))
