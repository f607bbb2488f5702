-- How many of the first places pass a test. Assumes nothing.
use mathlib.Core.Path.{◌≡◌, refl, ap}
use mathlib.Core.Logic.{◌⊎◌, inl, inr, ⊎_elim}
use mathlib.Core.Bool.{Bool, true, false, ◌||◌, ◌&&◌}
use lib.Dec.{leb, ltb}
use borrow.Author.Tests.{leb-true, ltb-true, le-leb, lt-ltb}
use Prim.Native.Nat.{ℕ, zero, suc, ◌+◌, ◌-◌, ◌≤◌, ◌<◌}
use native.Mathlib.Nat.{add-suc, add-zero, add-sub_of_le}
use native.Mathlib.Omega.{arith}
use Rattle.maxatom.specs.Class.{bit_of}

unfoldable pub count : (ℕ → Bool) → ℕ → ℕ
count p zero = 0
count p (suc d) = bit_of (p d) + count p d

bit_le : (b : Bool) → bit_of b ≤ 1
bit_le true = omega arith
bit_le false = omega arith

count_up : (p : ℕ → Bool) (d e : ℕ) → count p d ≤ count p (d + e)
unfolding count
count_up p d zero = rw add-zero (omega arith)
count_up p d (suc e) = let ih = count_up p d e in rw add-suc (omega arith)

pub count_mono : (p : ℕ → Bool) (a b : ℕ) → a ≤ b → count p a ≤ count p b
count_mono p a b h = rw (← add-sub_of_le h) (count_up p a (b - a))

-- the count rises by at most one a place
pub count_slow : (p : ℕ → Bool) (d e : ℕ) → count p (d + e) ≤ count p d + e
unfolding count
count_slow p d zero = rw add-zero (omega arith)
count_slow p d (suc e) = let ih = count_slow p d e in rw add-suc (omega (arith, bit_le (p (d + e))))

-- where every place passes, it rises by one a place
pub count_all : (p : ℕ → Bool) (d e : ℕ) → ((u : ℕ) → d ≤ u → u < d + e → p u ≡ true) → count p d + e ≤ count p (d + e)
unfolding count
count_all p d zero h = simp add-zero (omega arith)
count_all p d (suc e) h =
    let ih = count_all p d e (λ u a b. h u a (omega arith)) in
    let t : bit_of (p (d + e)) ≡ 1 = ap bit_of (h (d + e) (omega arith) (omega arith)) in
    simp add-suc (omega arith)

bit_or : (a b : Bool) → bit_of (a || b) ≤ bit_of a + bit_of b
bit_or true b = omega arith
bit_or false b = omega arith

pub count_or : (p q : ℕ → Bool) (d : ℕ) → count (λ u. p u || q u) d ≤ count p d + count q d
unfolding count
count_or p q zero = omega arith
count_or p q (suc d) = let ih = count_or p q d in omega (arith, bit_or (p d) (q d))

pub count_none : (d : ℕ) → count (λ u. false) d ≡ 0
unfolding count
count_none zero = refl
count_none (suc d) = omega (arith, count_none d)

-- a stretch of e places from a
abbrev pub within : ℕ → ℕ → ℕ → Bool
within a e u = leb a u && ltb u (a + e)

pub within_true : (a e u : ℕ) → a ≤ u → u < a + e → within a e u ≡ true
within_true a e u h k = rw (le-leb a u h, lt-ltb u (a + e) k)

within_bound : (a e u : ℕ) → (bit_of (within a e u) ≡ 0) ⊎ ((a ≤ u) × (u < a + e))
within_bound a e u = go (leb a u) (ltb u (a + e)) refl refl
  where
    go : (p q : Bool) → leb a u ≡ p → ltb u (a + e) ≡ q → (bit_of (p && q) ≡ 0) ⊎ ((a ≤ u) × (u < a + e))
    go true true f g = inr (leb-true a u f, ltb-true u (a + e) g)
    go true false f g = inl refl
    go false q f g = inl refl

within_both : (a e d : ℕ) → (count (within a e) d ≤ e) × (count (within a e) d ≤ d - a)
unfolding count
within_both a e zero = omega arith
within_both a e (suc d) =
    let ih = within_both a e d in
    ⊎_elim (λ (z : bit_of (within a e d) ≡ 0). omega arith)
    (λ (w : (a ≤ d) × (d < a + e)). omega (arith, bit_le (within a e d))) (within_bound a e d)

pub within_count : (a e d : ℕ) → count (within a e) d ≤ e
within_count a e d = (within_both a e d).0
