-- Integers by their parts, so that `omega` proves what is linear: z is `up z` minus `dn z`, one of them zero. Assumes nothing.
use mathlib.Core.Path.{◌≡◌, refl, sym, ap, subst}
use mathlib.Core.Logic.{◌⊎◌, inl, inr, ⊎_elim}
use mathlib.Core.Bool.{Bool, true, false, not, cond, ◌&&◌}
use Prim.Native.Nat.{ℕ, zero, suc, ◌+◌, ◌≤◌}
use native.Mathlib.Omega.{arith}
use lib.IntN.{ℤ, pos, negsuc, neg_ℤ, ◌+ℤ◌, sub_ℕ, nat_abs, ◌-ℤ◌}
use lib.Signed.{◌≤ℤ◌, ◌<ℤ◌, le_z, lt_z}
use lib.Dec.{T, ltb, leb→le, le→leb, ltb→lt, lt→ltb, nleb→lt}
use borrow.Author.Tests.{ltb-true, ltb-false}
use Rattle.maxatom.specs.Rule.{max_z, eq_z, minutes_off}
use Rattle.maxatom.specs.Book.{minus}
use Rattle.maxatom.proofs.Choose.{clash}

abbrev pub up : ℤ → ℕ
up (pos n) = n
up (negsuc n) = 0

abbrev pub dn : ℤ → ℕ
dn (pos n) = 0
dn (negsuc n) = suc n

pub le_read : {a b : ℤ} → a ≤ℤ b → up a + dn b ≤ up b + dn a
le_read {a = pos m} {b = pos n} h = omega (arith, leb→le m n h.le)
le_read {a = pos m} {b = negsuc n} h = absurd h.le
le_read {a = negsuc m} {b = pos n} h = omega arith
le_read {a = negsuc m} {b = negsuc n} h = omega (arith, leb→le n m h.le)

pub le_make : {a b : ℤ} → up a + dn b ≤ up b + dn a → a ≤ℤ b
le_make {a = pos m} {b = pos n} h = record { le = le→leb m n (omega arith) }
le_make {a = pos m} {b = negsuc n} h = absurd (omega arith)
le_make {a = negsuc m} {b = pos n} h = record { le = tt }
le_make {a = negsuc m} {b = negsuc n} h = record { le = le→leb n m (omega arith) }

pub lt_read : {a b : ℤ} → a <ℤ b → suc (up a + dn b) ≤ up b + dn a
lt_read {a = pos m} {b = pos n} h = omega (arith, ltb→lt m n h.lt)
lt_read {a = pos m} {b = negsuc n} h = absurd h.lt
lt_read {a = negsuc m} {b = pos n} h = omega arith
lt_read {a = negsuc m} {b = negsuc n} h = omega (arith, ltb→lt n m h.lt)

pub lt_make : {a b : ℤ} → suc (up a + dn b) ≤ up b + dn a → a <ℤ b
lt_make {a = pos m} {b = pos n} h = record { lt = lt→ltb m n (omega arith) }
lt_make {a = pos m} {b = negsuc n} h = absurd (omega arith)
lt_make {a = negsuc m} {b = pos n} h = record { lt = tt }
lt_make {a = negsuc m} {b = negsuc n} h = record { lt = lt→ltb n m (omega arith) }

pub eq_make : {a b : ℤ} → up a + dn b ≡ up b + dn a → a ≡ b
eq_make {a = pos m} {b = pos n} h = ap pos (omega arith)
eq_make {a = pos m} {b = negsuc n} h = absurd (omega arith)
eq_make {a = negsuc m} {b = pos n} h = absurd (omega arith)
eq_make {a = negsuc m} {b = negsuc n} h = ap negsuc (omega arith)

-- the parts of a sum, of a number turned about, and of its size
sub_parts : (m n : ℕ) → up (sub_ℕ m n) + n ≡ m + dn (sub_ℕ m n)
sub_parts m n = go (ltb m n) refl
  where
    go : (b : Bool) → ltb m n ≡ b → up (sub_ℕ m n) + n ≡ m + dn (sub_ℕ m n)
    go true e = rw e (omega (arith, ltb-true m n e))
    go false e = rw e (omega (arith, ltb-false m n e))

pub add_parts : (a b : ℤ) → up (a +ℤ b) + (dn a + dn b) ≡ up a + up b + dn (a +ℤ b)
add_parts (pos m) (pos n) = omega arith
add_parts (pos m) (negsuc n) = omega (arith, sub_parts m (suc n))
add_parts (negsuc m) (pos n) = omega (arith, sub_parts n (suc m))
add_parts (negsuc m) (negsuc n) = omega arith

pub neg_parts : (a : ℤ) → (up (neg_ℤ a) ≡ dn a) × (dn (neg_ℤ a) ≡ up a)
neg_parts (pos zero) = (refl, refl)
neg_parts (pos (suc n)) = (refl, refl)
neg_parts (negsuc n) = (refl, refl)

pub minus_parts : (n : ℕ) → (up (minus n) ≡ 0) × (dn (minus n) ≡ n)
minus_parts n = neg_parts (pos n)

pub abs_parts : (a : ℤ) → nat_abs a ≡ up a + dn a
abs_parts (pos n) = omega arith
abs_parts (negsuc n) = omega arith

-- one of the two is zero
pub one_part : (a : ℤ) → (up a ≡ 0) ⊎ (dn a ≡ 0)
one_part (pos n) = inr refl
one_part (negsuc n) = inl refl

-- the minutes between two times, each way round
pub off_most : (a b : ℤ) → up a + dn b ≤ up b + dn a + minutes_off a b
unfolding minutes_off
off_most a b = omega (arith, abs_parts (a -ℤ b), add_parts a (neg_ℤ b), neg_parts b)

pub off_parts : (a b : ℤ) → b ≤ℤ a → up a + dn b ≡ up b + dn a + minutes_off a b
unfolding minutes_off
off_parts a b h =
    ⊎_elim (λ (p : up (a -ℤ b) ≡ 0). omega (arith, abs_parts (a -ℤ b), add_parts a (neg_ℤ b), neg_parts b, le_read h))
    (λ (p : dn (a -ℤ b) ≡ 0). omega (arith, abs_parts (a -ℤ b), add_parts a (neg_ℤ b), neg_parts b)) (one_part (a -ℤ b))

pub up_zero : {a : ℤ} → a ≤ℤ pos 0 → up a ≡ 0
up_zero {a = a} h = ⊎_elim (λ (p : up a ≡ 0). p) (λ (p : dn a ≡ 0). omega (arith, le_read h)) (one_part a)

-- tests as facts, and facts as tests
T_true : (b : Bool) → T b → b ≡ true
T_true true t = refl
T_true false t = absurd t

pub le_true : {a b : ℤ} → le_z a b ≡ true → a ≤ℤ b
le_true e = record { le = subst T (sym e) tt }

pub true_le : {a b : ℤ} → a ≤ℤ b → le_z a b ≡ true
true_le {a = a} {b = b} h = T_true (le_z a b) h.le

pub lt_true : {a b : ℤ} → lt_z a b ≡ true → a <ℤ b
lt_true e = record { lt = subst T (sym e) tt }

pub true_lt : {a b : ℤ} → a <ℤ b → lt_z a b ≡ true
true_lt {a = a} {b = b} h = T_true (lt_z a b) h.lt

pub le_false : (a b : ℤ) → le_z a b ≡ false → b <ℤ a
le_false (pos m) (pos n) e = lt_make (omega (arith, nleb→lt m n (subst (λ (t : Bool). T (not t)) (sym e) tt)))
le_false (pos m) (negsuc n) e = record { lt = tt }
le_false (negsuc m) (pos n) e = clash refl e
le_false (negsuc m) (negsuc n) e = lt_make (omega (arith, nleb→lt n m (subst (λ (t : Bool). T (not t)) (sym e) tt)))

pub lt_false : (a b : ℤ) → lt_z a b ≡ false → b ≤ℤ a
lt_false (pos m) (pos n) e = le_make (omega (arith, ltb-false m n e))
lt_false (pos m) (negsuc n) e = record { le = tt }
lt_false (negsuc m) (pos n) e = clash refl e
lt_false (negsuc m) (negsuc n) e = le_make (omega (arith, ltb-false n m e))

pub by_test : (t : Bool) → (t ≡ true → ⊥) → t ≡ false
by_test true h = absurd (h refl)
by_test false h = refl

pub by_test_not : (t : Bool) → (t ≡ false → ⊥) → t ≡ true
by_test_not true h = refl
by_test_not false h = absurd (h refl)

pub false_le : {a b : ℤ} → b <ℤ a → le_z a b ≡ false
false_le {a = a} {b = b} h = by_test (le_z a b) (λ e. omega (arith, lt_read h, le_read (le_true {a = a} {b = b} e)))

pub false_lt : {a b : ℤ} → b ≤ℤ a → lt_z a b ≡ false
false_lt {a = a} {b = b} h = by_test (lt_z a b) (λ e. omega (arith, le_read h, lt_read (lt_true {a = a} {b = b} e)))

pub eq_true : (a b : ℤ) → eq_z a b ≡ true → a ≡ b
unfolding eq_z
eq_true a b e = go (le_z a b) (le_z b a) refl refl e
  where
    go : (p q : Bool) → le_z a b ≡ p → le_z b a ≡ q → (p && q) ≡ true → a ≡ b
    go true true p q h = eq_make (omega (arith, le_read (le_true {a = a} {b = b} p), le_read (le_true {a = b} {b = a} q)))
    go true false p q h = clash h refl
    go false q p r h = clash h refl

pub true_eq : (a b : ℤ) → a ≡ b → eq_z a b ≡ true
unfolding eq_z
true_eq a b e = rw (e, true_le {a = b} {b = b} (le_make (omega arith)))

pub ≤ℤ-trans : {a b c : ℤ} → a ≤ℤ b → b ≤ℤ c → a ≤ℤ c
≤ℤ-trans p q = le_make (omega (arith, le_read p, le_read q))

-- the larger of two
pub max_cases : (a b : ℤ) → ((max_z a b ≡ a) × (b ≤ℤ a)) ⊎ ((max_z a b ≡ b) × (a ≤ℤ b))
unfolding max_z
max_cases a b = go (lt_z a b) refl
  where
    go : (t : Bool) → lt_z a b ≡ t → ((cond t b a ≡ a) × (b ≤ℤ a)) ⊎ ((cond t b a ≡ b) × (a ≤ℤ b))
    go true e = inr (refl, le_make (omega (arith, lt_read (lt_true {a = a} {b = b} e))))
    go false e = inl (refl, lt_false a b e)

pub max_left : (a b : ℤ) → a ≤ℤ max_z a b
max_left a b =
    le_make
    (⊎_elim (λ (h : (max_z a b ≡ a) × (b ≤ℤ a)). omega (arith, ap up h.0, ap dn h.0))
    (λ (h : (max_z a b ≡ b) × (a ≤ℤ b)). omega (arith, ap up h.0, ap dn h.0, le_read h.1))
    (max_cases a b))

pub max_right : (a b : ℤ) → b ≤ℤ max_z a b
max_right a b =
    le_make
    (⊎_elim (λ (h : (max_z a b ≡ a) × (b ≤ℤ a)). omega (arith, ap up h.0, ap dn h.0, le_read h.1))
    (λ (h : (max_z a b ≡ b) × (a ≤ℤ b)). omega (arith, ap up h.0, ap dn h.0))
    (max_cases a b))

pub max_under : (a b c : ℤ) → a ≤ℤ c → b ≤ℤ c → max_z a b ≤ℤ c
max_under a b c p q = ⊎_elim (λ h. rw h.0 p) (λ h. rw h.0 q) (max_cases a b)

pub add_mono : (a b k : ℤ) → a ≤ℤ b → (a +ℤ k) ≤ℤ (b +ℤ k)
add_mono a b k h = le_make (omega (arith, le_read h, add_parts a k, add_parts b k))

-- what lies below the larger of two lies below one of them
pub max_split : (v a b k : ℤ) → v ≤ℤ (max_z a b +ℤ k) → (v ≤ℤ (a +ℤ k)) ⊎ (v ≤ℤ (b +ℤ k))
max_split v a b k h = ⊎_elim (λ m. inl (rw m.0 at h)) (λ m. inr (rw m.0 at h)) (max_cases a b)

-- a sum is no further from zero than its parts
pub add_bounds : (a b : ℤ) → (up (a +ℤ b) ≤ up a + up b) × (dn (a +ℤ b) ≤ dn a + dn b)
add_bounds a b =
    ⊎_elim (λ (p : up (a +ℤ b) ≡ 0). omega (arith, add_parts a b)) (λ (p : dn (a +ℤ b) ≡ 0). omega (arith, add_parts a b)) (one_part (a +ℤ b))
