-- What is left of the clauses decides as they do: where every clause is allowed, passes over what is left are passes over all. Assumes
-- nothing.
use mathlib.Core.Path.{◌≡◌, refl, subst}
use mathlib.Core.Bool.{Bool, true, false}
use mathlib.Core.List.{List, [], ◌∷◌}
use Prim.Native.Nat.{ℕ, ◌+◌, ◌*◌, ◌^◌, ◌<◌}
use native.Mathlib.Omega.{arith}
use mir.Syntax.{w64}
use mir.Val.{Fits}
use lib.IntN.{ℤ, pos, ◌+ℤ◌}
use lib.Signed.{◌≤ℤ◌}
use Rattle.maxatom.specs.Rule.{time_at}
use Rattle.maxatom.specs.Book.{Each}
use Rattle.maxatom.specs.declared.Arm.{Arm}
use Rattle.maxatom.specs.Clauses.{Clause, Assignment, arm_time, arms_of, left_of}
use Rattle.maxatom.specs.Inner.{In}
use Rattle.maxatom.proofs.Integers.{le_read, le_make, eq_make, add_parts, add_mono, ≤ℤ-trans}
use Rattle.maxatom.proofs.Lists.{each_in}
use Rattle.maxatom.proofs.Clauses.{Below, reaching, reached}
use Rattle.maxatom.proofs.Lines.{stays, along_shift}
use Rattle.maxatom.proofs.Components.{Trimmed, nothing, drop, swap, trimmed, kept_between}
use Rattle.clauses.proofs.Arms.{tautology_keeps}
use Rattle.restriction.specs.declared.pace.Pace.{Pace}
use Rattle.restriction.specs.Restriction.{pace_at, component_of, own, with_own, pick, Line, Staying, Above, target_arm, Keeper, Covered, InComponents, ClauseAllowed, trivial, left, left_out, Allowed}
use Rattle.restriction.proofs.Restrictions.{Left, left_is, left_tautology, arm_of_own, own_in, pick_in, pick_nothing}

-- two products of numbers that are small, or nearly so
pub products_fit : (a b c d : ℕ) → a < 2 ^ 30 → b < 2 ^ 31 → c < 2 ^ 30 → d < 2 ^ 31 → Fits w64 (a * b + c * d)
products_fit a b c d p q r s = record { fits = grind arith }

-- an arm stays above another by the room between them
pub above_of : {paces : List Pace} {times : List ℤ} {high low : Arm} {passes : ℕ} (gap : ℕ) → (arm_time (time_at times) low +ℤ pos gap) ≤ℤ arm_time (time_at times) high →
    Staying gap (pace_at paces high.job).period (pace_at paces high.job).fall (pace_at paces low.job).period (pace_at paces low.job).fall passes → Above paces times high low passes
above_of {high = high} {low = low} {passes = passes} gap room s =
    record { stays = λ i h v w y x. stays _ _ _ _ gap passes s.some.0 s.some.1 room s.first s.last i h (along_shift low.offset y) (along_shift high.offset x) }

-- no arm is above v, so the left side is not
left_under : (t : Assignment) (c : Clause) (v : ℤ) → ((a : Arm) → In a (arms_of c) → arm_time t a ≤ℤ v) → left_of t c ≤ℤ v
left_under t c v f = let r = reaching t c.first c.others (left_of t c) (le_make (omega arith)) in ≤ℤ-trans r.reaches (f r.arm r.among)

-- a pass whose times keep to their lines before it and after it
record Lined (paces : List Pace) (times : List ℤ) (components passes i : ℕ) (u w : List ℤ) : Type 0 where
  few : i < passes
  before : (job : ℕ) → component_of paces job < components → Line paces times job i (time_at u job)
  after : (job : ℕ) → component_of paces job < components → Line paces times job (i + 1) (time_at w job)

module _ {paces : List Pace} {times : List ℤ} {components passes i : ℕ} {u w : List ℤ} (pass : Lined paces times components passes i u w) where
  -- an arm at the times after the pass is at or above another at those before it
  held : (high low : Arm) → component_of paces high.job < components → component_of paces low.job < components → Above paces times high low passes →
      arm_time (time_at u) low ≤ℤ arm_time (time_at w) high
  held high low p q a = a.stays i (omega (arith, pass.few)) (time_at u low.job) (time_at w high.job) (pass.before low.job q) (pass.after high.job p)

  module _ (c : Clause) (jobs : InComponents paces components c) where
    within : {a : Arm} → In a (arms_of c) → component_of paces a.job < components
    within j = each_in (λ (a : Arm). component_of paces a.job < components) (arms_of c) jobs.arms j

    -- an arm that stays above the target keeps the clause
    kept : Keeper paces times passes c → time_at u c.target ≤ℤ left_of (time_at w) c
    kept k =
        let h = held k.arm (target_arm c) (within k.within) jobs.target k.above in
        ≤ℤ-trans (le_make (omega (arith, le_read h, add_parts (time_at u c.target) (pos 0)))) (reached (time_at w) c.first c.others k.within)

    -- where each arm that is not own is covered, the clause with an own arm in its place has the same left side
    module _ {a : Arm} (inside : In a (arms_of c)) (o : own paces c a ≡ true)
        (covered : Each (λ (b : Arm). own paces c b ≡ false → Covered paces times passes c b) (arms_of c)) (t : Assignment) (low : Below (time_at w) t) (high : Below t (time_at u)) where
      abbrev d : Clause
      d = with_own paces a c

      own_under : {b : Arm} → In b (arms_of c) → own paces c b ≡ true → arm_time t b ≤ℤ left_of t d
      own_under j e = reached t d.first d.others (own_in paces c inside o (arms_of c) j e)

      under : (b : Arm) → In b (arms_of c) → arm_time t b ≤ℤ left_of t d
      under b j = go (own paces c b) refl
        where
          go : (s : Bool) → own paces c b ≡ s → arm_time t b ≤ℤ left_of t d
          go true e = own_under j e
          go false e =
              let k = each_in (λ (b : Arm). own paces c b ≡ false → Covered paces times passes c b) (arms_of c) covered j e in
              ≤ℤ-trans (add_mono (t b.job) (time_at u b.job) b.offset (high b.job))
              (≤ℤ-trans (held k.arm b (within k.within) (within j) k.above)
              (≤ℤ-trans (add_mono (time_at w k.arm.job) (t k.arm.job) k.arm.offset (low k.arm.job)) (own_under k.within k.is_own)))

      alike : left_of t c ≡ left_of t d
      alike =
          let p = left_under t c (left_of t d) under in
          let q = left_under t d (left_of t c) (λ b j. reached t c.first c.others (arm_of_own paces c inside o j).0) in
          eq_make (omega (arith, le_read p, le_read q))

  trim_one : (c : Clause) → ClauseAllowed c paces times components passes → (cs : List Clause) →
      Trimmed (time_at u) (time_at w) cs (pick 0 components paces times cs) → Trimmed (time_at u) (time_at w) (c ∷ cs) (pick 0 components paces times (c ∷ cs))
  trim_one c (trivial e) cs m = rw (pick_nothing 0 components paces times c cs (left_tautology paces times c e)) (drop (λ t low high. tautology_keeps c e t) m)
  trim_one c (left jobs d e covered) cs m =
      let l : Left paces c d = (subst (Each (Left paces c)) e (left_is paces c times)).0 in
      rw (pick_in 0 components paces times c cs (omega arith) jobs.target, e, l.is)
      (swap refl (λ t low high. alike c jobs l.within l.is_own covered t low high) m)
  trim_one c (left_out jobs e k) cs m = rw (pick_nothing 0 components paces times c cs e) (drop (kept_between c (kept c jobs k)) m)

  trim : (cs : List Clause) → Each (λ (c : Clause). ClauseAllowed c paces times components passes) cs → Trimmed (time_at u) (time_at w) cs (pick 0 components paces times cs)
  unfolding pick
  trim [] e = nothing
  trim (c ∷ cs) e = trim_one c e.0 cs (trim cs e.1)

-- where every clause is allowed, all are
pub all_allowed : {cs : List Clause} {paces : List Pace} {times : List ℤ} {components passes : ℕ} →
    Each (λ (c : Clause). ClauseAllowed c paces times components passes) cs → Allowed cs paces times components passes
all_allowed {cs = cs} each =
    record { passing = λ floor least b e steps t. trimmed (λ i h u w before after. trim {u = u} {w = w} (record { few = h; before = before; after = after }) cs each) t }
