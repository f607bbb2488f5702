-- A step's bounds: left sides, minutes and tallies fit their types. Assumes nothing.
use mathlib.Core.Path.{◌≡◌, refl, ap}
use mathlib.Core.Logic.{⊎_elim}
use mathlib.Core.Bool.{Bool, true, false, ◌&&◌}
use mathlib.Core.List.{List, [], ◌∷◌}
use Prim.Native.Nat.{ℕ, zero, suc, ◌*◌, ◌<◌, ◌≤◌, ◌^◌}
use native.Mathlib.Omega.{arith}
use lib.Dec.{leb}
use lib.ListN.{length}
use lib.IntN.{ℤ, pos, nat_abs, neg_ℤ, ◌-ℤ◌}
use lib.Signed.{◌≤ℤ◌, ◌<ℤ◌, le_z}
use mir.Syntax.{w32}
use mir.Val.{SFits}
use borrow.Author.Tests.{leb-true}
use Rattle.maxatom.specs.Rule.{time_at, max_z, left_side, satisfied, eq_z, minutes_off}
use Rattle.maxatom.specs.Book.{most_minutes, Book, Each, total, smallest, floor}
use Rattle.maxatom.specs.Accepted.{InBook, InTime, Accepted}
use Rattle.maxatom.specs.declared.Rule.{Rule}
use Rattle.maxatom.proofs.Choose.{clash}
use Rattle.maxatom.proofs.Integers.{up, dn, le_read, le_make, lt_read, le_true, le_false, eq_true, one_part, neg_parts, minus_parts, add_parts, abs_parts, off_parts, up_zero, max_left, max_under, add_bounds, ≤ℤ-trans}
use Rattle.maxatom.proofs.Rules.{smallest_holds, floor_parts}
use Rattle.maxatom.proofs.Lists.{each_map, each_time}
use Rattle.derivation.specs.declared.Tally.{Tally}
use Rattle.derivation.specs.Step.{lowest, in_range, below_floor, sum_z, fits}
use Rattle.derivation.proofs.Reached.{test_high, floor_low}
use Rattle.maxatom.proofs.Signed.{fits_make}

sum_bound : (rules : List Rule) → Each (λ (r : Rule). nat_abs r.k ≤ 20160) rules → total rules ≤ length rules * 20160
unfolding total
sum_bound [] e = omega arith
sum_bound (r ∷ rules) e = omega (arith, e.0, sum_bound rules e.1)

-- K is at most 20,643,840
pub total_bound : {b : Book} → Accepted b → total b.rules ≤ 20643840
total_bound {b = b} a =
    omega (arith, sum_bound b.rules (each_map (InBook b.jobs) (λ (r : Rule). nat_abs r.k ≤ 20160) b.rules (λ r w. w.offset) a.rules_in), a.short)

-- the smallest latest time is within the bounds of each
pub smallest_in : {b : Book} → Accepted b → InTime (smallest b.latest)
smallest_in {b = b} a =
    smallest_holds InTime b.latest
    (record { lowest = le_make (omega (arith, minus_parts most_minutes)); highest = le_make (omega arith) }) a.latest_in

-- the floor is at most 20,664,000 below zero
pub floor_bound : {b : Book} → Accepted b → (up (floor b) ≡ 0) × (dn (floor b) ≤ 20664000)
floor_bound {b = b} a =
    let low = le_read (smallest_in a).lowest in
    let none = up_zero (smallest_in a).highest in
    let high = up_zero {a = floor b} (le_make (omega (arith, floor_parts b))) in
    (high, omega (arith, floor_parts b, total_bound a))

both : (p q : Bool) → (p && q) ≡ true → (p ≡ true) × (q ≡ true)
both true q e = (refl, e)
both false q e = clash e refl

-- what is no lower is no further below zero
deeper : {a b : ℤ} → a ≤ℤ b → dn b ≤ dn a
deeper {b = b} h = ⊎_elim (λ (p : up b ≡ 0). omega (arith, le_read h)) (λ (p : dn b ≡ 0). omega arith) (one_part b)

-- a board in range, one time for each job: each time is from `low` to the job's latest
pub data Legal (low : ℤ) : List ℤ → List ℤ → Type 0 where
  none : Legal low [] []
  more : {l t : ℤ} {latest times : List ℤ} → low ≤ℤ t → t ≤ℤ l → Legal low latest times → Legal low (l ∷ latest) (t ∷ times)

pub legal : (low : ℤ) (latest times : List ℤ) → length times ≡ length latest → in_range low latest times ≡ true → Legal low latest times
unfolding in_range
legal low [] [] n e = none
legal low [] (t ∷ times) n e = absurd (omega arith)
legal low (l ∷ latest) [] n e = absurd (omega arith)
legal low (l ∷ latest) (t ∷ times) n e =
    let (p, q) = both (le_z low t && le_z t l) (in_range low latest times) e in
    let (u, v) = both (le_z low t) (le_z t l) p in
    more (le_true u) (le_true v) (legal low latest times (omega arith) q)

module _ {low : ℤ} where
  pub legal_under : {latest times : List ℤ} → Legal low latest times → (job : ℕ) → time_at times job ≤ℤ time_at latest job
  legal_under none job = le_make (omega arith)
  legal_under (more p q r) zero = q
  legal_under (more p q r) (suc job) = legal_under r job

  pub legal_sum : {latest times : List ℤ} → Legal low latest times → sum_z times ≤ℤ sum_z latest
  unfolding sum_z
  legal_sum none = le_make (omega arith)
  legal_sum (more {l = l} {t = t} {latest = latest} {times = times} p q r) =
      le_make (omega (arith, le_read q, le_read (legal_sum r), add_parts l (sum_z latest), add_parts t (sum_z times)))

  legal_low : {latest times : List ℤ} → Legal low latest times → dn low ≤ 41307840 → dn (sum_z times) ≤ length times * 41307840
  unfolding sum_z
  legal_low none h = omega arith
  legal_low (more {t = t} {times = times} p q r) h = omega (arith, deeper p, legal_low r h, add_bounds t (sum_z times))

early_sum : (times : List ℤ) → Each InTime times → up (sum_z times) ≡ 0
unfolding sum_z
early_sum [] e = refl
early_sum (t ∷ times) e = omega (arith, up_zero e.0.highest, early_sum times e.1, add_bounds t (sum_z times))

module _ {b : Book} (a : Accepted b) {times : List ℤ} (held : Legal (lowest b) b.latest times) where
  pub early : (job : ℕ) → time_at times job ≤ℤ pos 0
  early job = ≤ℤ-trans (legal_under held job) (each_time (λ (t : ℤ). t ≤ℤ pos 0) b.latest (le_make (omega arith)) (each_map _ _ b.latest (λ t w. w.highest) a.latest_in) job)

  -- a tally that fits leaves room for a step
  pub tally_room : (tally : Tally) → length times ≤ 256 → fits b.latest tally times ≡ true → (tally.steps ≤ tally.minutes) × (tally.minutes < 2 ^ 62)
  unfolding fits
  tally_room tally n f =
      let (same, few) = both (eq_z (pos tally.minutes) (sum_z b.latest -ℤ sum_z times)) (leb tally.steps tally.minutes) f in
      let e = eq_true (pos tally.minutes) (sum_z b.latest -ℤ sum_z times) same in
      let low = add_bounds (smallest b.latest) (neg_ℤ (pos (2 * total b.rules))) in
      let deep : dn (lowest b) ≤ 41307840 =
      omega (arith, low.1, minus_parts (2 * total b.rules), total_bound a, le_read (smallest_in a).lowest, up_zero (smallest_in a).highest) in (
        leb-true tally.steps tally.minutes few,
        omega (
          arith,
          ap up e,
          add_bounds (sum_z b.latest) (neg_ℤ (sum_z times)),
          neg_parts (sum_z times),
          early_sum b.latest a.latest_in,
          legal_low held deep,
        ),
      )

  -- above the floor, a left side is no lower than an offset below it, and no later than an offset after zero
  module _ (above : below_floor (floor b) times ≡ false) (r : Rule) (in_book : InBook b.jobs r) where
    left_bound : (up (left_side r times) ≤ 20160) × (dn (left_side r times) ≤ 20684160)
    unfolding left_side
    left_bound =
        let x = time_at times r.x in
        let y = time_at times r.y in
        let none = up_zero (max_under x y (pos 0) (early r.x) (early r.y)) in
        let most = add_bounds (max_z x y) r.k in (
          omega (arith, abs_parts r.k, in_book.offset, none, most.0),
          omega (
            arith,
            abs_parts r.k,
            in_book.offset,
            most.1,
            deeper (max_left x y),
            deeper (test_high (floor b) times (floor_low a) above r.x),
            floor_bound a,
          ),
        )

    pub left_fits : SFits w32 (left_side r times)
    left_fits = fits_make w32 (omega (arith, left_bound.0)) (omega (arith, left_bound.1))

    module _ (violated : satisfied r times ≡ false) where
      lower : left_side r times <ℤ time_at times r.z
      unfolding satisfied
      lower = le_false _ _ violated

      pub off_bound : minutes_off (time_at times r.z) (left_side r times) ≤ 20684160
      off_bound =
          omega (arith, off_parts (time_at times r.z) (left_side r times) (le_make (omega (arith, lt_read lower))), left_bound.1, lt_read lower, up_zero (early r.z))
