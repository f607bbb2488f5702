-- A list of latest times: what its checks say, and its smallest. Assumes nothing.
use mathlib.Core.Path.{◌≡◌, refl, sym, ap, ◌∙◌}
use mathlib.Core.Bool.{Bool, true, false, cond, not}
use mathlib.Core.List.{List, [], ◌∷◌}
use Prim.Native.Nat.{ℕ, ◌+◌, ◌<◌, ◌≤◌}
use native.Mathlib.Numerals.{add-one}
use native.Mathlib.Omega.{arith}
use lib.ListN.{length, drop, drop_of_length-le}
use lib.Seq.{drop-cons}
use lib.IntN.{ℤ, pos, ◌-ℤ◌}
use lib.Signed.{◌≤ℤ◌, lt_z}
use mir.Facts.{to_z-of_z}
use mir.Syntax.{w32}
use mir.Val.{SFits, of_z, to_z}
use borrow.Author.Tests.{ne_eqb}
use Rattle.std.specs.Prelude.{Option, Some, None}
use Rattle.std.proofs.Common.{Less, Equal, Greater}
use Rattle.std.specs.Ordering.{ord_min, is_lt, int_cmp}
use Rattle.std.specs.List.{list_any, position, position_from}
use Rattle.std.proofs.lemmas.Iterator.Adapters.{position_from-zero}
use Rattle.maxatom.specs.Rule.{time_at}
use Rattle.maxatom.specs.Book.{smallest}
use Rattle.maxatom.proofs.Choose.{cond_yes, cond_no}
use Rattle.maxatom.proofs.Integers.{false_lt, le_read, le_make, lt_read, lt_true, lt_false, eq_make, ≤ℤ-trans}
use Rattle.derivation.specs.Refusals.{Reply, refused, answer, reply, verdict, latest_outside, time_checks, size_check, latest_checks}
use Rattle.derivation.proofs.Checks.{neither, says, listed, unlisted}

-- what is said of a list as long as it should be, by the first job whose time is out of bounds
abbrev by_place : Option ℕ → Reply (Unit {0})
by_place None = answer tt
by_place (Some place) = refused 8 place

said_from : (at : ℕ) (latest : List ℤ) → by_place (position_from latest_outside at latest) ≡ verdict (time_checks at latest)
unfolding reply time_checks
said_from at [] = refl
said_from at (t ∷ latest) = by (latest_outside t) (said_from (at + 1) latest)
  where
    by : (b : Bool) → by_place (position_from latest_outside (at + 1) latest) ≡ verdict (time_checks (at + 1) latest) →
        by_place (cond b (Some at) (position_from latest_outside (at + 1) latest)) ≡ cond b (refused 8 at) (verdict (time_checks (at + 1) latest))
    by true e = refl
    by false e = e

-- where none is out of bounds, a search finds none
none_from : (at : ℕ) (latest : List ℤ) → list_any latest_outside latest ≡ false → position_from latest_outside at latest ≡ None
none_from at [] e = refl
none_from at (t ∷ latest) e =
    let (p, q) = neither (latest_outside t) (list_any latest_outside latest) e in
    cond_no _ _ p ∙ none_from (at + 1) latest q

pub none_outside : (latest : List ℤ) → list_any latest_outside latest ≡ false → None ≡ position latest_outside latest
none_outside latest e = sym (position_from-zero latest_outside latest ∙ none_from 0 latest e)

module _ (jobs : ℕ) (latest : List ℤ) where
  pub latest_size : (length latest ≡ jobs → ⊥) → refused 21 0 ≡ verdict (latest_checks jobs latest)
  latest_size h = rw (unlisted jobs latest h) (sym (says tt (size_check jobs latest) [] (ap not (ne_eqb (length latest) jobs h))))

  pub latest_said : length latest ≡ jobs → {o : Option ℕ} → o ≡ position latest_outside latest → by_place o ≡ verdict (latest_checks jobs latest)
  latest_said h e = rw (listed jobs latest h, e, position_from-zero latest_outside latest) (said_from 0 latest)

-- the smaller of two
abbrev lesser : ℤ → ℤ → ℤ
lesser a b = cond (lt_z a b) a b

first_is : (a b : ℤ) → a ≤ℤ b → lesser a b ≡ a
first_is a b h = by (lt_z a b) refl
  where
    by : (t : Bool) → lt_z a b ≡ t → cond t a b ≡ a
    by true e = refl
    by false e = eq_make (omega (arith, le_read h, le_read (lt_false a b e)))

second_is : (a b : ℤ) → b ≤ℤ a → lesser a b ≡ b
second_is a b h = cond_no _ _ (false_lt h)

second_under : (a b : ℤ) → lesser a b ≤ℤ b
second_under a b = by (lt_z a b) refl
  where
    by : (t : Bool) → lt_z a b ≡ t → cond t a b ≤ℤ b
    by true e = le_make (omega (arith, lt_read {a = a} (lt_true e)))
    by false e = le_make (omega arith)

-- the smallest of three, two ways
swapped : (a b c : ℤ) → lesser (lesser a b) c ≡ lesser b (lesser a c)
swapped a b c = by (lt_z a b) (lt_z a c) refl refl
  where
    by : (s t : Bool) → lt_z a b ≡ s → lt_z a c ≡ t → lesser (cond s a b) c ≡ lesser b (cond t a c)
    by true true p q = cond_yes _ _ q ∙ sym (second_is b a (le_make (omega (arith, lt_read {a = a} (lt_true p)))))
    by true false p q =
        second_is a c (lt_false a c q) ∙ sym (second_is b c (le_make (omega (arith, lt_read {a = a} (lt_true p), le_read (lt_false a c q)))))
    by false true p q =
        first_is b c (le_make (omega (arith, lt_read {a = a} (lt_true q), le_read (lt_false a b p)))) ∙ sym (first_is b a (lt_false a b p))
    by false false p q = refl

-- the code takes the smaller by a comparison
pub compared : (a b : ℤ) → ord_min int_cmp a b ≡ lesser b a
compared a b = by (lt_z b a) (lt_z a b)
  where
    by : (s t : Bool) → cond (is_lt (cond s Less (cond t Greater Equal))) b a ≡ cond s b a
    by true t = refl
    by false true = refl
    by false false = refl

-- `least` is the smallest of zero and the first i of the times
pub record Least (latest : List ℤ) (least : ℤ) (i : ℕ) : Type 0 where
  pub low : i ≤ length latest
  pub under : least ≤ℤ pos 0
  pub rest : lesser least (smallest (drop i latest)) ≡ smallest latest

pub least_none : (latest : List ℤ) → Least latest (pos 0) 0
unfolding smallest
least_none latest = record { low = omega arith; under = le_make (omega arith); rest = second_is (pos 0) (smallest latest) (none latest) }
  where
    none : (latest : List ℤ) → smallest latest ≤ℤ pos 0
    none [] = le_make (omega arith)
    none (t ∷ latest) = ≤ℤ-trans (second_under t (smallest latest)) (none latest)

module _ {latest : List ℤ} {least : ℤ} {i : ℕ} (p : Least latest least i) where
  module _ (h : i < length latest) where
    abbrev after : ℤ
    after = smallest (drop (i + 1) latest)

    turn : lesser least (lesser (time_at latest i) after) ≡ smallest latest
    unfolding smallest
    turn = sym (ap (λ (l : List ℤ). lesser least (smallest l)) head) ∙ p.rest
      where
        head : drop i latest ≡ time_at latest i ∷ drop (i + 1) latest
        head = rw (add-one, drop-cons latest i (pos 0))

    pub least_next : Least latest (lesser (time_at latest i) least) (i + 1)
    least_next =
        record {
          low = omega arith;
          under = ≤ℤ-trans (second_under (time_at latest i) least) p.under;
          rest = swapped (time_at latest i) least after ∙ turn;
        }

  pub least_all : length latest ≤ i → least ≡ smallest latest
  unfolding smallest
  least_all h =
      sym (first_is least (pos 0) p.under) ∙ (sym (ap (λ (l : List ℤ). lesser least (smallest l)) (drop_of_length-le latest h)) ∙ p.rest)

-- the smallest latest time less a number, as the code has it
pub floor_is : (latest : List ℤ) {n m : ℕ} {least low : ℤ} → n ≡ m → SFits w32 least → least ≡ smallest latest → SFits w32 low →
    low ≡ to_z w32 (of_z w32 least) -ℤ pos n → to_z w32 (of_z w32 low) ≡ smallest latest -ℤ pos m
floor_is latest {n = n} same f first g is =
    to_z-of_z g ∙ (is ∙ (ap (λ (z : ℤ). z -ℤ pos n) (to_z-of_z f ∙ first) ∙ ap (λ (k : ℕ). smallest latest -ℤ pos k) same))
