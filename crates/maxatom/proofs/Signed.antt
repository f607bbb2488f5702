-- Signed machine numbers: which integers fit a width, by their parts. Assumes nothing.
use mathlib.Core.Path.{◌≡◌, ap, subst, ◌∙◌}
use mathlib.Core.Bool.{Bool}
use Prim.Native.Nat.{◌+◌, ◌≤◌, ◌<◌, ◌^◌}
use native.Mathlib.Omega.{arith}
use lib.IntN.{ℤ, pos, negsuc, neg_ℤ, nat_abs, ◌+ℤ◌, ◌-ℤ◌, +ℤ_idl}
use lib.Dec.{T}
use lib.Signed.{mag, non_neg, ◌≤ℤ◌, lt_z}
use mir.Syntax.{Width, w32, w64}
use mir.Val.{SFits, to_z, of_z, hbits}
use mir.Facts.{to_z-of_z, sfits_widen}
use Rattle.maxatom.proofs.Integers.{up, dn, le_read, abs_parts, neg_parts, add_bounds}

pub fits_make : (w : Width) {z : ℤ} → up z < 2 ^ hbits w → dn z ≤ 2 ^ hbits w → SFits w z
fits_make w {z = pos n} p q = record { sfits = p }
fits_make w {z = negsuc n} p q = record { sfits = omega arith }

pub fits_read : (w : Width) {z : ℤ} → SFits w z → (up z < 2 ^ hbits w) × (dn z ≤ 2 ^ hbits w)
fits_read w {z = pos n} f = (f.sfits, omega arith)
fits_read w {z = negsuc n} f = (omega (arith, f.sfits), omega (arith, f.sfits))

pub abs_fits : {z : ℤ} → SFits w32 z → nat_abs z ≤ 2 ^ 31
abs_fits {z = pos n} f = omega (arith, f.sfits)
abs_fits {z = negsuc n} f = omega (arith, f.sfits)

-- a field of 32 bits, as a read of it gives it
pub told : {z : ℤ} → mag z < 2 ^ 31 → to_z w32 (of_z w32 z) ≡ z
told h = to_z-of_z {w = w32} (record { sfits = h })

-- 32 bits cast to 64: what the cast asks, and what it gives
pub widens : {z : ℤ} → SFits w32 z → SFits w64 (to_z w32 (of_z w32 z))
widens f = rw (to_z-of_z {w = w32} f) (sfits_widen tt f)

pub widened : {z : ℤ} → SFits w32 z → to_z w64 (of_z w64 (to_z w32 (of_z w32 z))) ≡ z
widened f = rw (to_z-of_z {w = w32} f) (to_z-of_z {w = w64} (sfits_widen {w = w32} tt f))

-- the sum of two numbers of 32 bits fits 64
pub sum_fits : (a b : ℤ) → SFits w32 a → SFits w32 b → SFits w64 (a +ℤ b)
sum_fits a b f g = fits_make w64 (omega (arith, add_bounds a b, fits_read w32 f, fits_read w32 g)) (omega (arith, add_bounds a b, fits_read w32 f, fits_read w32 g))

-- a difference, as the code takes it
pub sub_fits : (w : Width) (a b : ℤ) → up a + dn b < 2 ^ hbits w → dn a + up b ≤ 2 ^ hbits w → SFits w (a -ℤ b)
sub_fits w a b p q = fits_make w (omega (arith, add_bounds a (neg_ℤ b), neg_parts b)) (omega (arith, add_bounds a (neg_ℤ b), neg_parts b))

pub zero_minus : (z : ℤ) → pos 0 -ℤ z ≡ neg_ℤ z
zero_minus z = +ℤ_idl (neg_ℤ z)

neg_abs : (z : ℤ) → nat_abs (neg_ℤ z) ≡ nat_abs z
neg_abs z = omega (arith, abs_parts z, abs_parts (neg_ℤ z), neg_parts z)

pub minus_abs : (z : ℤ) → nat_abs (pos 0 -ℤ z) ≡ nat_abs z
minus_abs z = ap nat_abs (zero_minus z) ∙ neg_abs z

-- a number at or above zero, as the cast to an unsigned type asks it
pub not_negative : (z : ℤ) → pos 0 ≤ℤ z → T (non_neg z)
not_negative (pos n) h = tt
not_negative (negsuc n) h = absurd (omega (arith, le_read h))

-- between two numbers of 32 bits
pub fits_between : {f z t : ℤ} → SFits w32 f → SFits w32 t → f ≤ℤ z → z ≤ℤ t → SFits w32 z
fits_between {z = pos n} p q l u = fits_make w32 (omega (arith, fits_read w32 q, le_read u)) (omega arith)
fits_between {z = negsuc n} p q l u = fits_make w32 (omega arith) (omega (arith, fits_read w32 p, le_read l))

-- a number of 64 bits and one of 32, compared as the code compares them
pub wide_test : {l t a b : ℤ} {v : Bool} → SFits w64 a → SFits w64 b → SFits w32 t → a ≡ l → b ≡ to_z w32 (of_z w32 t) → lt_z (to_z w64 (of_z w64 a)) (to_z w64 (of_z w64 b)) ≡ v → lt_z l t ≡ v
wide_test {l = l} {t = t} {a = a} {b = b} {v = v} p q r e f h =
    subst (λ (x : ℤ). lt_z x t ≡ v) e
    (subst (λ (y : ℤ). lt_z a y ≡ v) (f ∙ to_z-of_z {w = w32} r) (subst (λ (y : ℤ). lt_z a y ≡ v) (to_z-of_z {w = w64} q) (subst (λ (x : ℤ). lt_z x (to_z w64 (of_z w64 b)) ≡ v) (to_z-of_z {w = w64} p) h)))
