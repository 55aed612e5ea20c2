-- What holds of the value that a test chooses.
use mathlib.Core.Path.{◌≡◌, refl}
use mathlib.Core.Bool.{Bool, true, false, cond}

-- what holds of both values holds of the one that is chosen
pub either : {A : Type 0} (P : A → Type 0) (b : Bool) (x y : A) → P x → P y → P (cond b x y)
either P true x y p q = p
either P false x y p q = q

-- what holds of each value where it is chosen holds of the one that is chosen
pub chosen : {A : Type 0} (P : A → Type 0) (b : Bool) (x y : A) → (b ≡ true → P x) → (b ≡ false → P y) → P (cond b x y)
chosen P true x y p q = p refl
chosen P false x y p q = q refl

-- two changes, each withheld by the same test, are the two in turn, withheld by it
pub both_kept : {A : Type 0} (kept : Bool) (f g : A → A) (x : A) → cond kept (cond kept x (f x)) (g (cond kept x (f x))) ≡ cond kept x (g (f x))
both_kept true f g x = refl
both_kept false f g x = refl
