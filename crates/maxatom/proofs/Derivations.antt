-- Max-derivations above a floor, from given latest times, with steps taken back: Lemmas 6 and 7 of the paper, and how long a derivation
-- can be. Over clauses with any number of arms and any latest times. Assumes nothing.
use mathlib.Core.Path.{◌≡◌, refl, sym, ap, subst, ◌∙◌}
use mathlib.Core.Logic.{◌↔◌}
use mathlib.Core.Bool.{Bool, true, false}
use mathlib.Core.List.{List, [], ◌∷◌}
use Prim.Native.Nat.{ℕ, zero, suc, ◌+◌, ◌≤◌, ◌<◌}
use native.Mathlib.Omega.{arith}
use lib.ListN.{length, set, length-set}
use lib.IntN.{ℤ, pos, ◌+ℤ◌}
use lib.Signed.{◌≤ℤ◌, ◌<ℤ◌, le_z}
use Rattle.maxatom.specs.Rule.{time_at, minutes_off}
use Rattle.maxatom.specs.Book.{Each}
use Rattle.maxatom.specs.Clauses.{Clause, Assignment, left_of, Keeps, stepped}
use Rattle.maxatom.specs.Inner.{In, here}
use Rattle.maxatom.specs.declared.Arm.{Arm}
use Rattle.maxatom.proofs.Integers.{up, dn, le_read, le_make, lt_read, add_parts, off_most, off_parts, le_true, le_false, ≤ℤ-trans}
use Rattle.maxatom.specs.Runs.{sum_by, room}
use Rattle.maxatom.proofs.Lists.{each_in, in_each, set_time, sum_set, sum_most}
use Rattle.maxatom.proofs.Clauses.{KeepsAll, Below, Weighed, first_total, reached, left_mono}
use Rattle.maxatom.proofs.SmallModels.{Small, lemma_2}

-- a clause may be stepped on: it is in the set, violated, and no job stands below the floor
pub record Due (cs : List Clause) (floor : ℤ) (times : List ℤ) (c : Clause) : Type 0 where
  pub among : In c cs
  pub high : (job : ℕ) → floor ≤ℤ time_at times job
  pub violated : left_of (time_at times) c <ℤ time_at times c.target

abbrev pub taken : List ℤ → Clause → ℕ
taken times c = minutes_off (time_at times c.target) (left_of (time_at times) c)

-- a time may be raised to v
pub record Raised (latest times : List ℤ) (job : ℕ) (v : ℤ) : Type 0 where
  pub inside : job < length latest
  pub later : time_at times job <ℤ v
  pub not_late : v ≤ℤ time_at latest job

-- times reached from `latest` by steps, and by raising a time again, whoever says to what: no later than its latest time, and while the
-- steps are no more than the minutes. The numbers are those of the steps, less those taken back, and of the minutes that they took off.
pub data Derivation (cs : List Clause) (floor : ℤ) (latest : List ℤ) : List ℤ → ℕ → ℕ → Type 0 where
  start : Derivation cs floor latest latest 0 0
  step : {times : List ℤ} {steps minutes : ℕ} (c : Clause) → Derivation cs floor latest times steps minutes → Due cs floor times c →
      Derivation cs floor latest (stepped times c) (steps + 1) (minutes + taken times c)
  raise : {times : List ℤ} {steps minutes : ℕ} (job : ℕ) (v : ℤ) → Derivation cs floor latest times (steps + 1) (minutes + minutes_off v (time_at times job)) →
      Raised latest times job v → steps ≤ minutes → Derivation cs floor latest (set times job v) steps minutes

-- Lemma 6: an assignment is a model exactly when no step can be made from it
pub lemma_6 : (cs : List Clause) (t : Assignment) → KeepsAll t cs ↔ ((c : Clause) → In c cs → left_of t c <ℤ t c.target → ⊥)
lemma_6 cs t =
    ((λ k c i h. omega (arith, lt_read h, le_read (each_in (Keeps t) cs k i))), (λ f. in_each (Keeps t) cs (λ c i. keep c (f c i))))
  where
    keep : (c : Clause) → (left_of t c <ℤ t c.target → ⊥) → Keeps t c
    keep c f = go (le_z (t c.target) (left_of t c)) refl
      where
        go : (b : Bool) → le_z (t c.target) (left_of t c) ≡ b → Keeps t c
        go true e = le_true e
        go false e = absurd (f (le_false (t c.target) (left_of t c) e))

module _ {cs : List Clause} {floor : ℤ} {latest : List ℤ} where
  pub same_length : {b : List ℤ} {s m : ℕ} → Derivation cs floor latest b s m → length b ≡ length latest
  same_length start = refl
  same_length (step {times = b} c d due) = length-set b c.target (left_of (time_at b) c) ∙ same_length d
  same_length (raise {times = b} job v d r few) = length-set b job v ∙ same_length d

  -- Lemma 7: a derivation passes no model
  pub lemma_7 : (t : Assignment) → KeepsAll t cs → Below t (time_at latest) → {b : List ℤ} {s m : ℕ} → Derivation cs floor latest b s m → Below t (time_at b)
  lemma_7 t k u start job = u job
  lemma_7 t k u (step {times = b} c d due) job =
      let ih : Below t (time_at b) = λ i. lemma_7 t k u d i in
      set_time (λ (v : ℤ). t job ≤ℤ v) b c.target job (left_of (time_at b) c) (ih job)
      (λ e. subst (λ (i : ℕ). t i ≤ℤ left_of (time_at b) c) e (≤ℤ-trans (each_in (Keeps t) cs k due.among) (left_mono c t (time_at b) ih)))
  lemma_7 t k u (raise {times = b} j v d r few) job =
      set_time (λ (w : ℤ). t job ≤ℤ w) b j job v (lemma_7 t k u d job)
      (λ e. subst (λ (i : ℕ). t i ≤ℤ v) e (le_make (omega (arith, le_read (lemma_7 t k u d j), lt_read r.later))))

  pub under_latest : {b : List ℤ} {s m : ℕ} → Derivation cs floor latest b s m → Below (time_at b) (time_at latest)
  under_latest start job = le_make (omega arith)
  under_latest (step {times = b} c d due) job =
      let ih : Below (time_at b) (time_at latest) = λ i. under_latest d i in
      set_time (λ (v : ℤ). v ≤ℤ time_at latest job) b c.target job (left_of (time_at b) c) (ih job)
      (λ e. le_make (omega (arith, lt_read due.violated, le_read (ih c.target), ap (λ (i : ℕ). up (time_at latest i)) e, ap (λ (i : ℕ). dn (time_at latest i)) e)))
  under_latest (raise {times = b} j v d r few) job =
      set_time (λ (w : ℤ). w ≤ℤ time_at latest job) b j job v (under_latest d job) (λ e. subst (λ (i : ℕ). v ≤ℤ time_at latest i) e r.not_late)

  -- each step takes off a minute or more
  pub few_steps : {b : List ℤ} {s m : ℕ} → Derivation cs floor latest b s m → s ≤ m
  few_steps start = omega arith
  few_steps (step {times = b} c d due) =
      omega (arith, few_steps d, lt_read due.violated, off_most (time_at b c.target) (left_of (time_at b) c))
  few_steps (raise job v d r few) = few

  -- no time lies further below the floor than one offset
  pub not_far : {total : ℕ} → Weighed cs total → ((job : ℕ) → floor ≤ℤ time_at latest job) → {b : List ℤ} {s m : ℕ} → Derivation cs floor latest b s m →
      (job : ℕ) → floor ≤ℤ (time_at b job +ℤ pos (total))
  not_far {total = total} w h start job = le_make (omega (arith, le_read (h job), add_parts (time_at latest job) (pos (total))))
  not_far {total = total} w h (step {times = b} c d due) job =
      set_time (λ (v : ℤ). floor ≤ℤ (v +ℤ pos (total))) b c.target job (left_of (time_at b) c) (not_far w h d job) (λ e. lowest)
    where
      a : Arm
      a = c.first

      lowest : floor ≤ℤ (left_of (time_at b) c +ℤ pos (total))
      lowest =
          le_make
          (omega (
            arith,
            le_read (reached (time_at b) a c.others here),
            add_parts (time_at b a.job) a.offset,
            add_parts (left_of (time_at b) c) (pos (total)),
            le_read (due.high a.job),
            first_total w due.among,
          ))
  not_far {total = total} w h (raise {times = b} j v d r few) job =
      set_time (λ (u : ℤ). floor ≤ℤ (u +ℤ pos total)) b j job v (not_far w h d job)
      (λ e. le_make
      (omega (arith, le_read (not_far w h d j), lt_read r.later, add_parts (time_at b j) (pos total), add_parts v (pos total))))

-- what a derivation starts from: each arm is weighed, each target is a job, and the floor is the total below every latest time
pub record Setting (cs : List Clause) (floor : ℤ) (latest : List ℤ) : Type 0 where
  pub total : ℕ
  pub weighed : Weighed cs total
  pub targets : Each (λ c. c.target < length latest) cs
  pub deep : (job : ℕ) → (floor +ℤ pos total) ≤ℤ time_at latest job

-- lists of times, of which none is later than the other's: the minutes between them, in all and of one job
sums_below : (latest b : List ℤ) → length b ≡ length latest → Below (time_at b) (time_at latest) → sum_by dn latest + sum_by up b ≤ sum_by up latest + sum_by dn b
unfolding sum_by
sums_below [] [] e u = omega arith
sums_below [] (t ∷ b) e u = absurd (omega arith)
sums_below (l ∷ latest) [] e u = absurd (omega arith)
sums_below (l ∷ latest) (t ∷ b) e u = omega (arith, sums_below latest b (omega arith) (λ job. u (suc job)), le_read (u 0))

pub one_below : (latest b : List ℤ) (job : ℕ) → length b ≡ length latest → Below (time_at b) (time_at latest) →
    up (time_at latest job) + dn (time_at b job) + (sum_by dn latest + sum_by up b) ≤ sum_by up latest + sum_by dn b + (dn (time_at latest job) + up (time_at b job))
unfolding sum_by
one_below [] [] job e u = omega arith
one_below [] (t ∷ b) job e u = absurd (omega arith)
one_below (l ∷ latest) [] job e u = absurd (omega arith)
one_below (l ∷ latest) (t ∷ b) zero e u = omega (arith, sums_below latest b (omega arith) (λ job. u (suc job)))
one_below (l ∷ latest) (t ∷ b) (suc job) e u = omega (arith, one_below latest b job (omega arith) (λ i. u (suc i)), le_read (u 0))

high_room : (floor : ℤ) (latest b : List ℤ) → length b ≡ length latest → ((job : ℕ) → floor ≤ℤ time_at b job) →
    sum_by up latest + sum_by dn b ≤ sum_by dn latest + sum_by up b + room floor latest
unfolding sum_by
high_room floor [] [] e h = omega arith
high_room floor [] (t ∷ b) e h = absurd (omega arith)
high_room floor (u ∷ latest) [] e h = absurd (omega arith)
high_room floor (u ∷ latest) (t ∷ b) e h =
    omega (arith, high_room floor latest b (omega arith) (λ job. h (suc job)), le_read (h 0), off_most u floor)

module _ {cs : List Clause} {floor : ℤ} {latest : List ℤ} (set : Setting cs floor latest) where
  pub floor_under : (job : ℕ) → floor ≤ℤ time_at latest job
  floor_under job = le_make (omega (arith, le_read (set.deep job), add_parts floor (pos set.total)))

  -- the minutes are what the times have lost
  pub minutes_lost : {b : List ℤ} {s m : ℕ} → Derivation cs floor latest b s m → sum_by up latest + sum_by dn b ≡ sum_by dn latest + sum_by up b + m
  minutes_lost start = omega arith
  minutes_lost (step {times = b} c d due) =
      let z = c.target in
      let v = left_of (time_at b) c in
      let h : z < length b = subst (λ (n : ℕ). z < n) (sym (same_length d)) (each_in (λ (x : Clause). x.target < length latest) cs set.targets due.among) in
      omega (
        arith,
        minutes_lost d,
        sum_set up b z v h,
        sum_set dn b z v h,
        off_parts (time_at b z) v (le_make (omega (arith, lt_read due.violated))),
      )
  minutes_lost (raise {times = b} job v d r few) =
      let h : job < length b = subst (λ (n : ℕ). job < n) (sym (same_length d)) r.inside in
      omega (
        arith,
        minutes_lost d,
        sum_set up b job v h,
        sum_set dn b job v h,
        off_parts v (time_at b job) (le_make (omega (arith, lt_read r.later))),
      )

  few_minutes : {b : List ℤ} {s m : ℕ} → Derivation cs floor latest b s m → ((job : ℕ) → floor ≤ℤ time_at b job) → m ≤ room floor latest
  few_minutes {b = b} d h = omega (arith, minutes_lost d, high_room floor latest b (same_length d) h)

  -- no derivation is longer than the room and one more
  pub longest : {b : List ℤ} {s m : ℕ} → Derivation cs floor latest b s m → s ≤ room floor latest + 1
  longest start = omega arith
  longest (step c d due) = omega (arith, few_steps d, few_minutes d due.high)
  longest (raise job v d r few) = omega (arith, longest d)

  -- above the floor, no longer than the room
  pub longest_high : {b : List ℤ} {s m : ℕ} → Derivation cs floor latest b s m → ((job : ℕ) → floor ≤ℤ time_at b job) → s ≤ room floor latest
  longest_high d h = omega (arith, few_steps d, few_minutes d h)

  module _ (t : Assignment) (model : KeepsAll t cs) (under : Below t (time_at latest)) where
    small : Small cs set.total (time_at latest) (floor +ℤ pos set.total)
    small =
        lemma_2 cs set.weighed (time_at latest) _ (pos (sum_by up latest)) set.deep
        (λ job. le_make (omega (arith, sum_most up latest job refl))) t model under

    -- where a model respects the latest times, no derivation falls below the floor
    pub stays_high : {b : List ℤ} {s m : ℕ} → Derivation cs floor latest b s m → (job : ℕ) → floor ≤ℤ time_at b job
    stays_high {b = b} d job =
        ≤ℤ-trans {b = small.times job}
        (le_make (omega (arith, le_read (small.near job), add_parts floor (pos set.total), add_parts (small.times job) (pos set.total))))
        (lemma_7 small.times small.keeps small.under d job)

    -- one as long as the room ends at a model
    pub full : {b : List ℤ} {s m : ℕ} → Derivation cs floor latest b s m → s ≡ room floor latest → KeepsAll (time_at b) cs
    full {b = b} d e =
        (lemma_6 cs (time_at b)).1
        (λ c i h. let further = step c d (record { among = i; high = stays_high d; violated = h }) in
        omega (arith, longest_high further (stays_high further)))
