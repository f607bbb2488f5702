-- One clause, read arm by arm. Assumes nothing.
use mathlib.Core.Path.{◌≡◌, refl}
use mathlib.Core.Bool.{Bool, true, false, cond, ◌&&◌, ◌||◌}
use mathlib.Core.List.{List, [], ◌∷◌, ◌++◌}
use Prim.Native.Nat.{ℕ, zero, suc, ◌<◌}
use native.Mathlib.Omega.{arith}
use lib.ListN.{length, get_or, set, take}
use lib.IntN.{ℤ, pos, ◌+ℤ◌}
use lib.Signed.{◌≤ℤ◌, le_z, lt_z}
use lib.Dec.{eqb}
use borrow.Author.Tests.{eqb-true, eq-eqb}
use Rattle.std.proofs.Math.Bool.{or-true}
use Rattle.std.proofs.lemmas.Bool.{and_parts}
use mir.Facts.{to_z-of_z}
use mir.Syntax.{w32, w64}
use mir.Val.{SFits, to_z, of_z}
use Rattle.std.specs.Int.{int_max}
use Rattle.maxatom.specs.Rule.{max_z}
use Rattle.maxatom.specs.Book.{Each}
use Rattle.maxatom.specs.declared.Arm.{Arm}
use Rattle.maxatom.specs.Clauses.{Clause, Assignment, arm_time, greatest, arms_of, Keeps}
use Rattle.maxatom.specs.Inner.{In, here, there, arm_at}
use Rattle.maxatom.proofs.Integers.{le_true, le_make, le_read, lt_true, lt_false, lt_read, eq_make, add_parts, ≤ℤ-trans, by_test, max_left, max_right, max_under}
use Rattle.maxatom.proofs.Choose.{clash}
use Rattle.maxatom.proofs.Lists.{each_in, at_in}
use Rattle.maxatom.proofs.Clauses.{reached}
use Rattle.clauses.specs.Passes.{put_arm, tautology, tautology_by}

-- the library's larger of two is the one of the definitions
pub max_is : (a b : ℤ) → int_max a b ≡ max_z a b
unfolding max_z
max_is a b = by (lt_z a b) (lt_z b a) refl refl
  where
    by : (p q : Bool) → lt_z a b ≡ p → lt_z b a ≡ q → int_max a b ≡ cond (lt_z a b) b a
    by true true e f = absurd (omega (arith, lt_read (lt_true {a = a} {b = b} e), lt_read (lt_true {a = b} {b = a} f)))
    by true false e f = rw (e, f)
    by false true e f = rw (e, f)
    by false false e f = rw (e, f) (eq_make (omega (arith, le_read (lt_false a b e), le_read (lt_false b a f))))

-- what the code reads: the larger of two times, the sum of a time and an offset, and that a number is no larger than such a sum
module _ (a b : ℤ) where
  pub larger_told : {m : ℤ} → m ≡ int_max (to_z w32 (of_z w32 a)) (to_z w32 (of_z w32 b)) → SFits w32 a → SFits w32 b → m ≡ max_z a b
  larger_told e f g = rw (to_z-of_z f, to_z-of_z g, max_is a b) at e

  pub sum_told : {s : ℤ} → s ≡ to_z w32 (of_z w32 a) +ℤ to_z w32 (of_z w32 b) → SFits w32 a → SFits w32 b → s ≡ a +ℤ b
  sum_told e f g = rw (to_z-of_z f, to_z-of_z g) at e

  pub below_told : (v : ℤ) {s : ℤ} → s ≡ to_z w32 (of_z w32 a) +ℤ to_z w32 (of_z w32 b) → le_z (to_z w64 (of_z w64 v)) (to_z w64 (of_z w64 s)) ≡ true →
      SFits w64 v → SFits w64 s → SFits w32 a → SFits w32 b → v ≤ℤ (a +ℤ b)
  below_told v {s = s} e t fv fs f g = rw (sum_told e f g) at (le_true {a = v} {b = s} (rw (to_z-of_z fv, to_z-of_z fs) at t))

pub arm_in : (c : Clause) (i : ℕ) → i < length (arms_of c) → In (arm_at c i) (arms_of c)
arm_in c i h = at_in (arms_of c) i c.first h

-- what holds of each arm holds of the arm of a number
pub arm_each : (P : Arm → Type 0) (c : Clause) (i : ℕ) → Each P (arms_of c) → i < length (arms_of c) → P (arm_at c i)
arm_each P c i e h = each_in P (arms_of c) e (arm_in c i h)

pub arms_put : (c : Clause) (i : ℕ) (a : Arm) → arms_of (put_arm c i a) ≡ set (arms_of c) i a
unfolding put_arm
arms_put c zero a = refl
arms_put c (suc i) a = refl

-- an arm that reaches the target whatever the times
record Keeping (target : ℕ) (l : List Arm) : Type 0 where
  arm : Arm
  among : In arm l
  reaches : (t : Assignment) → t target ≤ℤ arm_time t arm

keeper : (target : ℕ) (l : List Arm) → tautology_by target l ≡ true → Keeping target l
unfolding tautology_by
keeper target [] e = clash e refl
keeper target (a ∷ l) e = go (eqb a.job target) (le_z (pos 0) a.offset) refl refl e (λ h. let r = keeper target l h in record { arm = r.arm; among = there r.among; reaches = r.reaches })
  where
    go : (s t : Bool) → eqb a.job target ≡ s → le_z (pos 0) a.offset ≡ t → ((s && t) || tautology_by target l) ≡ true → (tautology_by target l ≡ true → Keeping target (a ∷ l)) → Keeping target (a ∷ l)
    go true true p q h f =
        let o : pos 0 ≤ℤ a.offset = le_true q in
        record { arm = a; among = here; reaches = λ t. rw (← eqb-true a.job target p) (le_make (omega (arith, le_read o, add_parts (t a.job) a.offset))) }
    go true false p q h f = f h
    go false t p q h f = f h

-- no times violate a tautology
pub tautology_keeps : (c : Clause) → tautology c ≡ true → (t : Assignment) → Keeps t c
unfolding tautology
tautology_keeps c e t = let r = keeper c.target (arms_of c) e in ≤ℤ-trans (r.reaches t) (reached t c.first c.others r.among)

module _ (target : ℕ) where
  -- an arm that makes its clause a tautology
  pub tautology_true : (l : List Arm) {a : Arm} → In a l → a.job ≡ target → le_z (pos 0) a.offset ≡ true → tautology_by target l ≡ true
  unfolding tautology_by
  tautology_true [] i p q = elim i [ ]
  tautology_true (a ∷ l) here p q = rw (p, q, eq-eqb target target refl)
  tautology_true (a ∷ l) (there i) p q = rw (tautology_true l i p q, or-true (eqb a.job target && le_z (pos 0) a.offset))

  -- one arm more, which does not
  pub tautology_more : (l : List Arm) (i : ℕ) (d : Arm) → tautology_by target (take i l) ≡ false → i < length l → ((get_or l i d).job ≡ target → le_z (pos 0) (get_or l i d).offset ≡ false) →
      tautology_by target (take (suc i) l) ≡ false
  unfolding tautology_by
  tautology_more [] i d e h n = absurd (omega arith)
  tautology_more (a ∷ l) zero d e h n =
      rw (by_test (eqb a.job target && le_z (pos 0) a.offset) (λ t. let both = and_parts _ _ t in clash both.1 (n (eqb-true a.job target both.0))))
  tautology_more (a ∷ l) (suc i) d e h n = go (eqb a.job target && le_z (pos 0) a.offset) e (λ f. tautology_more l i d f (omega arith) n)
    where
      go : (t : Bool) → (t || tautology_by target (take i l)) ≡ false → (tautology_by target (take i l) ≡ false → tautology_by target (take (suc i) l) ≡ false) → (t || tautology_by target (take (suc i) l)) ≡ false
      go true e f = clash refl e
      go false e f = f e

max_assoc : (a b c : ℤ) → max_z a (max_z b c) ≡ max_z (max_z a b) c
max_assoc a b c =
    let p : max_z a (max_z b c) ≤ℤ max_z (max_z a b) c =
    max_under _ _ _ (≤ℤ-trans (max_left a b) (max_left _ c)) (max_under _ _ _ (≤ℤ-trans (max_right a b) (max_left _ c)) (max_right _ c)) in
    let q : max_z (max_z a b) c ≤ℤ max_z a (max_z b c) =
    max_under _ _ _ (max_under _ _ _ (max_left a _) (≤ℤ-trans (max_left b c) (max_right a _))) (≤ℤ-trans (max_right b c) (max_right a _)) in
    eq_make (omega (arith, le_read p, le_read q))

-- the largest of the arms and one more
pub greatest_more : (t : Assignment) (a : Arm) (l : List Arm) (b : Arm) → greatest t a (l ++ (b ∷ [])) ≡ max_z (greatest t a l) (arm_time t b)
unfolding greatest
greatest_more t a [] b = refl
greatest_more t a (c ∷ l) b = rw (greatest_more t c l b, max_assoc (arm_time t a) (greatest t c l) (arm_time t b))
