-- The bytes of a plan determine its times. Assumes nothing.
use mathlib.Core.Path.{◌≡◌, refl, sym, ap, ◌∙◌}
use mathlib.Core.Logic.{◌⊎◌, inl, inr, ⊎_elim}
use mathlib.Core.Bool.{Bool, true, false}
use mathlib.Core.List.{List, [], ◌∷◌, ◌++◌}
use Prim.Native.Nat.{ℕ, ◌+◌, ◌/◌, ◌%◌, ◌<◌, ◌≤◌}
use native.Mathlib.Nat.{div-add-mod', mod-eq_of_lt}
use native.Mathlib.Omega.{arith}
use lib.ListN.{length}
use lib.IntN.{ℤ, pos, ◌+ℤ◌}
use lib.Signed.{lt_z}
use mir.Syntax.{w32}
use mir.Val.{SFits}
use Rattle.maxatom.specs.Book.{Each}
use Rattle.maxatom.proofs.Integers.{up, dn, abs_parts, eq_make, le_read, lt_true, lt_false, one_part}
use Rattle.maxatom.proofs.Signed.{fits_read}
use Rattle.bookfile.specs.Numbers.{bytes_of, unsigned32}
use Rattle.bookfile.specs.Writing.{plan_record, plan_from}
use Rattle.bookfile.specs.Theorems.{PlanDetermines}
use Rattle.bookfile.proofs.Words.{raised_parts, unsigned_raised, unsigned_plain}

-- the 32 bits of a time: the time, or what is left to 2 to the 32nd
record Bits (t : ℤ) : Type 0 where
  at_zero : (dn t ≡ 0) ⊎ (1 ≤ dn t)
  above : dn t ≡ 0 → unsigned32 t ≡ up t
  below : 1 ≤ dn t → (up t ≡ 0) × (unsigned32 t + dn t ≡ 4294967296)
  low : up t < 2147483648
  high : dn t ≤ 2147483648

bits_of : (t : ℤ) → SFits w32 t → Bits t
bits_of t f = go (lt_z t (pos 0)) refl
  where
    go : (b : Bool) → lt_z t (pos 0) ≡ b → Bits t
    go true e =
        let p = raised_parts t f (lt_true e) in
        let u = unsigned_raised t e in
        let a = abs_parts (t +ℤ pos 4294967296) in
        let z : up t ≡ 0 = ⊎_elim (λ q. q) (λ q. absurd (omega (arith, p))) (one_part t) in
        record {
          at_zero = inr p.2;
          above = λ q. absurd (omega (arith, p));
          below = λ q. (z, omega (arith, p));
          low = (fits_read w32 f).0;
          high = (fits_read w32 f).1;
        }
    go false e =
        let l = le_read (lt_false t (pos 0) e) in
        let z : dn t ≡ 0 = ⊎_elim (λ q. omega arith) (λ q. q) (one_part t) in
        let u = unsigned_plain t e in
        record {
          at_zero = inl z;
          above = λ q. omega (arith, abs_parts t);
          below = λ q. absurd (omega arith);
          low = (fits_read w32 f).0;
          high = (fits_read w32 f).1;
        }

bits_small : {t : ℤ} → Bits t → unsigned32 t < 4294967296
bits_small b = ⊎_elim (λ q. omega (arith, b.above q, b.low)) (λ q. omega (arith, b.below q)) b.at_zero

same_bits : {s t : ℤ} → Bits s → Bits t → unsigned32 s ≡ unsigned32 t → s ≡ t
same_bits a b e =
    eq_make
    (⊎_elim
    (λ p. ⊎_elim (λ q. omega (arith, a.above p, b.above q)) (λ q. absurd (omega (arith, a.above p, a.low, b.below q, b.high))) b.at_zero)
    (λ p. ⊎_elim (λ q. absurd (omega (arith, a.below p, a.high, b.above q, b.low))) (λ q. omega (arith, a.below p, b.below q)) b.at_zero)
    a.at_zero)

-- the lowest byte and the rest determine a number, and so do four bytes a number of 32 bits
join : (u v : ℕ) → u % 256 ≡ v % 256 → u / 256 ≡ v / 256 → u ≡ v
join u v a b = sym (div-add-mod' u 256) ∙ rw (a, b) (div-add-mod' v 256)

four : (u v : ℕ) → u < 4294967296 → v < 4294967296 → u % 256 ≡ v % 256 → u / 256 % 256 ≡ v / 256 % 256 → u / 256 / 256 % 256 ≡ v / 256 / 256 % 256 →
    u / 256 / 256 / 256 % 256 ≡ v / 256 / 256 / 256 % 256 → u ≡ v
four u v p q a b c d =
    let m : u / 256 / 256 / 256 < 256 = omega arith in
    let n : v / 256 / 256 / 256 < 256 = omega arith in
    let t : u / 256 / 256 / 256 ≡ v / 256 / 256 / 256 = sym (mod-eq_of_lt m) ∙ d ∙ mod-eq_of_lt n in
    join u v a (join (u / 256) (v / 256) b (join (u / 256 / 256) (v / 256 / 256) c t))

one_time : (job : ℕ) (s t : ℤ) (more others : List ℕ) → SFits w32 s → SFits w32 t → plan_record job s ++ more ≡ plan_record job t ++ others →
    (s ≡ t) × (more ≡ others)
unfolding plan_record bytes_of
one_time job s t more others f g e =
    let u = unsigned32 s in
    let v = unsigned32 t in
    let a = bits_of s f in
    let b = bits_of t g in
    let e0 : u % 256 ≡ v % 256 = cc in
    let e1 : u / 256 % 256 ≡ v / 256 % 256 = cc in
    let e2 : u / 256 / 256 % 256 ≡ v / 256 / 256 % 256 = cc in
    let e3 : u / 256 / 256 / 256 % 256 ≡ v / 256 / 256 / 256 % 256 = cc in
    (same_bits a b (four u v (bits_small a) (bits_small b) e0 e1 e2 e3), cc)

times_from : (job : ℕ) (s t : List ℤ) → Each (SFits w32) s → Each (SFits w32) t → plan_from job s ≡ plan_from job t → s ≡ t
unfolding plan_from plan_record
times_from job [] [] f g e = refl
times_from job [] (t ∷ ts) f g e = absurd (omega (arith, ap length e))
times_from job (s ∷ ss) [] f g e = absurd (omega (arith, ap length e))
times_from job (s ∷ ss) (t ∷ ts) f g e =
    let p = one_time job s t (plan_from (job + 1) ss) (plan_from (job + 1) ts) f.0 g.0 e in
    let q = times_from (job + 1) ss ts f.1 g.1 p.1 in
    let r = p.0 in
    cc

pub plan_determines : PlanDetermines
plan_determines s t f g e = times_from 0 s t f g e
