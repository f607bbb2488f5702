-- A choice whose test is known. Assumes nothing.
use mathlib.Core.Path.{◌≡◌, ap}
use mathlib.Core.Bool.{Bool, true, false, cond, true≢false}

pub cond_yes : {A : Type 0} (x y : A) {t : Bool} → t ≡ true → cond t x y ≡ x
cond_yes x y e = ap (λ (t : Bool). cond t x y) e

pub cond_no : {A : Type 0} (x y : A) {t : Bool} → t ≡ false → cond t x y ≡ y
cond_no x y e = ap (λ (t : Bool). cond t x y) e

-- a test is not both
pub clash : {A : Type 0} {t : Bool} → t ≡ true → t ≡ false → A
clash p q = absurd (true≢false (cc))
