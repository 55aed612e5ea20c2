-- Tenths rounded up, in other words: the least number of tenths that is no less than the milliseconds.
use mathlib.Core.Path.{◌≡◌, refl}
use Prim.Native.Nat.{ℕ, ◌+◌, ◌*◌, ◌<◌, ◌≤◌}
use native.Mathlib.Omega.{arith}
use Rattle.published.specs.Descriptors.{tenths_up}

-- Rounded, it is no less, and less than a tenth more.
pub rounded_up_lem : (ms : ℕ) → (ms ≤ 100 * tenths_up ms) × (100 * tenths_up ms < ms + 100)
rounded_up_lem ms = (omega arith, omega arith)

-- No other number of tenths is so near.
pub rounded_only : (ms t : ℕ) → ms ≤ 100 * t → 100 * t < ms + 100 → t ≡ tenths_up ms
rounded_only ms t h k = omega arith

-- None stays none, up to 100 ms are one tenth, and the longest recovery time is 656.
pub rounded_samples : (tenths_up 0 ≡ 0) × (tenths_up 1 ≡ 1) × (tenths_up 100 ≡ 1) × (tenths_up 101 ≡ 2) × (tenths_up 65535 ≡ 656)
rounded_samples = (refl, refl, refl, refl, refl)
