-- Loops over a whole assignment: the tests and the sum. Assumes nothing.
use mathlib.Core.Path.{◌≡◌, refl, sym, ap, ◌∙◌}
use mathlib.Core.Bool.{Bool, true, false, ◌||◌, ◌&&◌}
use mathlib.Core.List.{List, [], ◌∷◌}
use Prim.Native.Nat.{ℕ, ◌+◌, ◌*◌, ◌<◌, ◌≤◌, ◌^◌, min}
use native.Mathlib.Numerals.{add-one}
use native.Mathlib.Omega.{arith}
use lib.ListN.{length, drop, drop_of_length-le, length-drop}
use lib.Seq.{drop-cons}
use lib.IntN.{ℤ, pos, nat_abs, ◌+ℤ◌, ◌-ℤ◌}
use Rattle.std.specs.List.{list_any}
use lib.Signed.{lt_z, le_z}
use lib.Dec.{leb}
use mir.Syntax.{w32, w64}
use mir.Val.{SFits}
use Rattle.maxatom.specs.Rule.{time_at, eq_z}
use Rattle.maxatom.proofs.Integers.{up, dn, abs_parts, add_parts, add_bounds, eq_make, true_eq, eq_true, by_test}
use Rattle.maxatom.proofs.Signed.{fits_make, fits_read, sub_fits}
use Rattle.derivation.specs.declared.Tally.{Tally}
use Rattle.derivation.specs.Step.{in_range, below_floor, sum_z, fits}

pub head_at : (b : List ℤ) (i : ℕ) → i < length b → drop i b ≡ time_at b i ∷ drop (i + 1) b
head_at b i h = rw (add-one, drop-cons b i (pos 0))

-- s is the sum of the first i times
pub record Summed (times : List ℤ) (s : ℤ) (i : ℕ) : Type 0 where
  pub low : i ≤ length times
  pub high : up s ≤ i * 2 ^ 31
  pub deep : dn s ≤ i * 2 ^ 31
  pub rest : up s + up (sum_z (drop i times)) + dn (sum_z times) ≡ dn s + dn (sum_z (drop i times)) + up (sum_z times)

module _ {times : List ℤ} {s : ℤ} {i : ℕ} (p : Summed times s i) where
  module _ (h : i < length times) (few : length times ≤ 256) (f : SFits w32 (time_at times i)) where
    abbrev t : ℤ
    t = time_at times i

    pub sum_room : SFits w64 (s +ℤ t)
    sum_room =
        fits_make w64 (omega (arith, p.high, add_bounds s t, fits_read w32 f)) (omega (arith, p.deep, add_bounds s t, fits_read w32 f))

    pub summed_next : Summed times (s +ℤ t) (i + 1)
    unfolding sum_z
    summed_next =
        let q = ap sum_z (head_at times i h) in
        record {
          low = omega arith;
          high = omega (arith, p.high, add_bounds s t, fits_read w32 f);
          deep = omega (arith, p.deep, add_bounds s t, fits_read w32 f);
          rest = omega (arith, p.rest, add_parts s t, ap up q, ap dn q, add_parts t (sum_z (drop (i + 1) times)));
        }

  pub summed_all : length times ≤ i → s ≡ sum_z times
  unfolding sum_z
  summed_all h =
      let q = ap sum_z (drop_of_length-le times h) in
      eq_make (omega (arith, p.rest, ap up q, ap dn q))

  pub summed_bound : length times ≤ 256 → nat_abs s ≤ 2 ^ 40
  summed_bound few = omega (arith, abs_parts s, p.low, p.high, p.deep)

-- a difference of two sums
pub difference_fits : (a b : ℤ) → nat_abs a ≤ 2 ^ 40 → nat_abs b ≤ 2 ^ 40 → SFits w64 (a -ℤ b)
difference_fits a b p q = sub_fits w64 a b (omega (arith, abs_parts a, abs_parts b)) (omega (arith, abs_parts a, abs_parts b))

-- the tally fits: one test of numbers, then another
module _ (latest : List ℤ) (tally : Tally) (times : List ℤ) {m : ℕ} (e : pos m ≡ sum_z latest -ℤ sum_z times) where
  pub fits_yes : tally.minutes ≡ m → leb tally.steps tally.minutes ≡ fits latest tally times
  unfolding fits
  fits_yes h = rw (true_eq (pos tally.minutes) (sum_z latest -ℤ sum_z times) (ap pos h ∙ e))

  pub fits_no : (tally.minutes ≡ m → ⊥) → false ≡ fits latest tally times
  unfolding fits
  fits_no h =
      rw (by_test (eq_z (pos tally.minutes) (sum_z latest -ℤ sum_z times)) (λ q. h (pos_same (eq_true (pos tally.minutes) (sum_z latest -ℤ sum_z times) q ∙ sym e))))
    where
      pos_same : {m n : ℕ} → pos m ≡ pos n → m ≡ n
      pos_same q = cc

-- the test of the floor, as one of each time
pub floor_any : (f : ℤ) (times : List ℤ) → list_any (λ t. lt_z t f) times ≡ below_floor f times
unfolding below_floor
floor_any f [] = refl
floor_any f (t ∷ times) = ap (λ (b : Bool). lt_z t f || b) (floor_any f times)

-- nothing is left of one of the two lists
ended : (low : ℤ) (latest times : List ℤ) → min (length latest) (length times) ≡ 0 → in_range low latest times ≡ true
unfolding in_range
ended low [] times h = refl
ended low (l ∷ latest) [] h = refl
ended low (l ∷ latest) (t ∷ times) h = absurd (omega arith)

-- `legal` says whether the first i times are in range
pub record Ranged (low : ℤ) (latest times : List ℤ) (i : ℕ) (legal : Bool) : Type 0 where
  pub rest : (legal && in_range low (drop i latest) (drop i times)) ≡ in_range low latest times

module _ (low : ℤ) (latest times : List ℤ) {i : ℕ} {legal : Bool} (p : Ranged low latest times i legal) where
  pub ranged_next : i < length latest → i < length times →
      Ranged low latest times (i + 1) (legal && (le_z low (time_at times i) && le_z (time_at times i) (time_at latest i)))
  unfolding in_range
  ranged_next h q =
      record {
        rest = and_joins legal (le_z low (time_at times i) && le_z (time_at times i) (time_at latest i)) (in_range low (drop (i + 1) latest) (drop (i + 1) times))
            ∙ (sym (ap (λ (l : List ℤ). legal && in_range low l (drop i times)) (head_at latest i h)
            ∙ ap (λ (l : List ℤ). legal && in_range low (time_at latest i ∷ drop (i + 1) latest) l) (head_at times i q)) ∙ p.rest);
      }
    where
      and_joins : (a b c : Bool) → ((a && b) && c) ≡ (a && (b && c))
      and_joins true b c = refl
      and_joins false b c = refl

  pub ranged_all : i ≡ min (length latest) (length times) → legal ≡ in_range low latest times
  ranged_all h = and_true legal _ (ended low (drop i latest) (drop i times) short) ∙ p.rest
    where
      short : min (length (drop i latest)) (length (drop i times)) ≡ 0
      short = omega (arith, length-drop i latest, length-drop i times)

      and_true : (a b : Bool) → b ≡ true → a ≡ (a && b)
      and_true true true e = refl
      and_true true false e = sym e
      and_true false b e = refl
