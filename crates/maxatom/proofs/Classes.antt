-- The class of a rule: exactly one, the same in the paper's order, and what each means. Assumes nothing.
use mathlib.Core.Path.{◌≡◌, refl, sym, ap, ◌∙◌}
use mathlib.Core.Logic.{◌⊎◌, inl, inr, ⊎_elim}
use mathlib.Core.Bool.{Bool, true, false, not, ◌&&◌, ◌||◌, xor}
use mathlib.Core.List.{List}
use Prim.Native.Nat.{ℕ, ◌+◌}
use native.Mathlib.Omega.{arith}
use lib.Dec.{eqb}
use lib.IntN.{ℤ, pos, ◌+ℤ◌}
use lib.Signed.{◌≤ℤ◌, ◌<ℤ◌, le_z}
use borrow.Author.Tests.{eqb-true, not-true}
use Rattle.maxatom.specs.Rule.{time_at, max_z, left_side, satisfied}
use Rattle.maxatom.specs.Class.{negative, tautology, contradiction, difference, disjunctive, class_of, acting_twice, bit_of, ClassMeaning, class_in_order, SameInOrder}
use Rattle.maxatom.specs.declared.Rule.{Rule}
use Rattle.maxatom.proofs.Choose.{cond_yes, cond_no, clash}
use Rattle.maxatom.proofs.Integers.{le_read, le_make, lt_read, add_parts, le_true, true_le, lt_true, lt_false, by_test, ≤ℤ-trans, add_mono, max_left, max_right, max_split}

module _ (r : Rule) where
  pub same_in_order : SameInOrder r
  unfolding class_in_order class_of tautology contradiction difference xor
  same_in_order = grind arith

  exactly : bit_of (tautology r) + bit_of (contradiction r) + bit_of (difference r) + bit_of (disjunctive r) ≡ 1
  unfolding tautology contradiction difference disjunctive xor
  exactly = grind arith

-- of four tests of which one holds, the others fail
others : (a b c d : Bool) → bit_of a + bit_of b + bit_of c + bit_of d ≡ 1 → a ≡ true → (b ≡ false) × (c ≡ false) × (d ≡ false)
others a b c d s h = (
  by_test b (λ e. omega (arith, ap bit_of h, ap bit_of e)),
  by_test c (λ e. omega (arith, ap bit_of h, ap bit_of e)),
  by_test d (λ e. omega (arith, ap bit_of h, ap bit_of e)),
)

both : (p q : Bool) → (p && q) ≡ true → (p ≡ true) × (q ≡ true)
both true q e = (refl, e)
both false q e = clash e refl

either : (p q : Bool) → (p || q) ≡ true → (p ≡ true) ⊎ (q ≡ true)
either true q e = inl refl
either false q e = inr e

just_one : (p q : Bool) → xor p q ≡ true → ((p ≡ true) × (q ≡ false)) ⊎ ((p ≡ false) × (q ≡ true))
unfolding xor
just_one true true e = clash e refl
just_one true false e = inl (refl, refl)
just_one false true e = inr (refl, refl)
just_one false false e = clash e refl

-- two tests that follow from each other are equal
same : (p q : Bool) → (p ≡ true → q ≡ true) → (q ≡ true → p ≡ true) → p ≡ q
same true q f g = sym (f refl)
same false true f g = g refl
same false false f g = refl

module _ (times : List ℤ) where
  time : {i j : ℕ} → i ≡ j → time_at times i ≡ time_at times j
  time e = ap (λ (j : ℕ). time_at times j) e

  -- an arm at or above what is asked
  by_arm : (v a b k : ℤ) → (v ≤ℤ (a +ℤ k)) ⊎ (v ≤ℤ (b +ℤ k)) → v ≤ℤ (max_z a b +ℤ k)
  by_arm v a b k =
      ⊎_elim (λ p. ≤ℤ-trans p (add_mono a (max_z a b) k (max_left a b))) (λ p. ≤ℤ-trans p (add_mono b (max_z a b) k (max_right a b)))

  -- z's own arm does not help where k is negative
  not_own : (v k : ℤ) → k <ℤ pos 0 → v ≤ℤ (v +ℤ k) → ⊥
  not_own v k n h = omega (arith, lt_read n, le_read h, add_parts v k)

  every : (r : Rule) → tautology r ≡ true → satisfied r times ≡ true
  unfolding tautology satisfied left_side
  every r h =
      let (p, q) = both (not (negative r)) (eqb r.z r.x || eqb r.z r.y) h in
      let k : pos 0 ≤ℤ r.k = lt_false r.k (pos 0) (not-true _ p) in
      let own : time_at times r.z ≤ℤ (time_at times r.z +ℤ r.k) = le_make (omega (arith, le_read k, add_parts (time_at times r.z) r.k)) in
      true_le
      (by_arm (time_at times r.z) (time_at times r.x) (time_at times r.y) r.k
      (⊎_elim (λ e. inl (rw (← time (eqb-true r.z r.x e)) own)) (λ e. inr (rw (← time (eqb-true r.z r.y e)) own))
      (either (eqb r.z r.x) (eqb r.z r.y) q)))

  none : (r : Rule) → contradiction r ≡ true → satisfied r times ≡ false
  unfolding contradiction satisfied left_side
  none r h =
      let (p, q) = both (negative r) (eqb r.z r.x && eqb r.z r.y) h in
      let (u, w) = both (eqb r.z r.x) (eqb r.z r.y) q in
      let z = time_at times r.z in
      by_test _
      (λ e. ⊎_elim
      (λ (g : z ≤ℤ (time_at times r.x +ℤ r.k)). not_own (time_at times r.x) r.k (lt_true p) (rw (time (eqb-true r.z r.x u)) at g))
      (λ (g : z ≤ℤ (time_at times r.y +ℤ r.k)). not_own (time_at times r.y) r.k (lt_true p) (rw (time (eqb-true r.z r.y w)) at g))
      (max_split z (time_at times r.x) (time_at times r.y) r.k (le_true e)))

  -- where only the arm c can help, the rule is that arm's
  one_arm : (v a b c k : ℤ) → (v ≤ℤ (max_z a b +ℤ k) → v ≤ℤ (c +ℤ k)) → (v ≤ℤ (c +ℤ k) → v ≤ℤ (max_z a b +ℤ k)) →
      le_z v (max_z a b +ℤ k) ≡ le_z v (max_z c c +ℤ k)
  one_arm v a b c k f g =
      same _ _ (λ e. true_le (by_arm v c c k (inl (f (le_true e)))))
      (λ e. true_le (g (⊎_elim (λ p. p) (λ p. p) (max_split v c c k (le_true e)))))

  acting : (r : Rule) → difference r ≡ true → satisfied r times ≡ satisfied (acting_twice r) times
  unfolding difference satisfied left_side acting_twice
  acting r h =
      ⊎_elim
      (λ (p : (negative r && xor (eqb r.z r.x) (eqb r.z r.y)) ≡ true).
      let (n, o) = both (negative r) (xor (eqb r.z r.x) (eqb r.z r.y)) p in
      ⊎_elim (λ (w : (eqb r.z r.x ≡ true) × (eqb r.z r.y ≡ false)).
      rw w.0 (one_arm z x y y r.k (λ g. ⊎_elim (λ own. absurd (not_own x r.k (lt_true n) (rw (time (eqb-true r.z r.x w.0)) at own))) (λ arm. arm) (max_split z x y r.k g)) (λ g. by_arm z x y r.k (inr g))))
      (λ (w : (eqb r.z r.x ≡ false) × (eqb r.z r.y ≡ true)).
      rw w.0 (one_arm z x y x r.k (λ g. ⊎_elim (λ arm. arm) (λ own. absurd (not_own y r.k (lt_true n) (rw (time (eqb-true r.z r.y w.1)) at own))) (max_split z x y r.k g)) (λ g. by_arm z x y r.k (inl g))))
      (just_one (eqb r.z r.x) (eqb r.z r.y) o))
      (λ (p : (not (eqb r.z r.x) && eqb r.x r.y) ≡ true).
      let (n, o) = both (not (eqb r.z r.x)) (eqb r.x r.y) p in
      rw (not-true (eqb r.z r.x) n, time (eqb-true r.x r.y o)))
      (either (negative r && xor (eqb r.z r.x) (eqb r.z r.y)) (not (eqb r.z r.x) && eqb r.x r.y) h)
    where
      x : ℤ
      x = time_at times r.x

      y : ℤ
      y = time_at times r.y

      z : ℤ
      z = time_at times r.z

pub class_meaning : (r : Rule) → ClassMeaning r
unfolding class_of disjunctive
class_meaning r =
    let i = tautology r in
    let m = contradiction r in
    let o = difference r in
    let w = disjunctive r in
    let s = exactly r in
    record {
      exactly_one = s;
      said_tautology = λ e. cond_yes _ _ e;
      said_contradiction = λ e. let q = others m i o w (omega arith) e in cond_no _ _ q.0 ∙ cond_yes _ _ e;
      said_difference = λ e. let q = others o i m w (omega arith) e in cond_no _ _ q.0 ∙ cond_no _ _ q.1 ∙ cond_yes _ _ e;
      said_disjunctive = λ e. let q = others w i m o (omega arith) e in cond_no _ _ q.0 ∙ cond_no _ _ q.1 ∙ cond_no _ _ q.2;
      by_every = λ e times. every times r e;
      by_none = λ e times. none times r e;
      by_acting = λ e times. acting times r e;
    }
