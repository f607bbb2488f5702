-- A run underway: from times that it came to it can go on, its steps are few, and how it ends. Assumes nothing.
use Rattle.std.proofs.Common.{◌≡◌, refl, sym, ap, subst, ◌∙◌, ℕ, suc, ◌+◌, ◌*◌, ◌<◌, ◌≤◌, ◌^◌, List, [], ◌∷◌, ◌++◌, map, length, get_or, take, drop, ℤ, pos, nat_abs, ◌≤ℤ◌, Some, Ok, Err, SFits, w32, arith, take-append-drop}
use lib.ListN.{length-map}
use Rattle.std.proofs.lemmas.List.{drop_more, get_or-map, length-take}
use Rattle.maxatom.specs.Rule.{time_at}
use Rattle.maxatom.specs.Book.{Each, minus}
use Rattle.maxatom.specs.Clauses.{Clause, arms_of, arm_time, left_of, stepped}
use Rattle.maxatom.specs.Inner.{In, here, InJobs}
use Rattle.maxatom.specs.declared.Arm.{Arm}
use Rattle.maxatom.specs.Passes.{Walk, round}
use Rattle.maxatom.specs.Runs.{slip_at, pass, Run, run, room, sum_by}
use Rattle.maxatom.proofs.Integers.{le_read, le_make, up_zero, off_parts, minus_parts, abs_parts, add_bounds, ≤ℤ-trans}
use Rattle.maxatom.proofs.Signed.{fits_make, fits_between}
use Rattle.maxatom.proofs.Lists.{each_in}
use Rattle.maxatom.proofs.Clauses.{Below, reaching, reached}
use Rattle.maxatom.proofs.Walks.{High, Targets, walk_size, walk_few, walk_high, walk_low, walk_fell}
use Rattle.maxatom.proofs.Components.{passing_low}
use Rattle.maxatom.proofs.Runs.{Ends, passing_size, passing_high, passing_room, ends_fell, ends_planned, ends_after}
use Rattle.clauses.specs.Passes.{Walked, Falls}
use Rattle.maxatom.proofs.Lists.{at_in}
use Rattle.accelerate.specs.Acceleration.{PassesMade}
use Rattle.accelerate.proofs.Repetitions.{made_none, made_then, made_still}
use Rattle.run.specs.Blocks.{Settled}
use Rattle.run.specs.Running.{Runnable, Came, LastStep, PassMade, end_of}
use Rattle.run.proofs.Stretches.{targets_in}
use Rattle.run.specs.declared.passing.Fall.{Fall}

-- the room above a floor that is not far from zero
room_most : {floor : ℤ} (b : List ℤ) → ((job : ℕ) → floor ≤ℤ time_at b job) → ((job : ℕ) → time_at b job ≤ℤ pos 0) → minus (2 ^ 30) ≤ℤ floor → room floor b ≤ length b * 2 ^ 30
unfolding sum_by
room_most [] high early deep = omega arith
room_most {floor = floor} (t ∷ b) high early deep =
    omega (arith, room_most b (λ job. high (suc job)) (λ job. early (suc job)) deep, off_parts t floor (high 0), up_zero (early 0), le_read deep, minus_parts (2 ^ 30))

module _ {floor : ℤ} {cs : List Clause} {b : List ℤ} (r : Runnable floor cs b) where
  targets : Targets b cs
  targets = targets_in cs b b refl r.in_times

  room_bound : room floor b ≤ 2 ^ 38
  room_bound = omega (arith, room_most b r.high r.early r.deep, r.few)

  arm_fits : (a : Arm) → nat_abs a.offset ≤ 2 ^ 30 → SFits w32 (arm_time (time_at b) a)
  arm_fits a h =
      let sum = add_bounds (time_at b a.job) a.offset in
      let early = up_zero (r.early a.job) in
      fits_make w32 (omega (arith, sum, early, abs_parts a.offset)) (omega (arith, sum, early, abs_parts a.offset, le_read (r.high a.job), le_read r.deep, minus_parts (2 ^ 30)))

  -- a left side is a number of 32 bits
  pub left_fits : {c : Clause} → In c cs → SFits w32 (left_of (time_at b) c)
  left_fits {c = c} i =
      let arms = each_in _ cs r.offsets i in
      let best = reaching (time_at b) c.first c.others (left_of (time_at b) c) (le_make (omega arith)) in
      fits_between (arm_fits c.first arms.0) (arm_fits best.arm (each_in _ (arms_of c) arms best.among)) (reached (time_at b) c.first c.others here) best.reaches

  -- lower times are those of a run that can go on
  lowered : {b' : List ℤ} → length b' ≡ length b → High floor b' → Below (time_at b') (time_at b) → Runnable floor cs b'
  lowered size high low =
      record {
        in_times = subst (λ (n : ℕ). Each (λ (c : Clause). InJobs n c) cs) (sym size) r.in_times;
        few = omega (arith, size, r.few);
        short = r.short;
        high = high;
        early = λ job. ≤ℤ-trans (low job) (r.early job);
        deep = r.deep;
        offsets = r.offsets;
      }

  pub walk_runnable : {ds : List Clause} {b' : List ℤ} {k : ℕ} → Walk floor ds b b' k → Runnable floor cs b'
  walk_runnable w = lowered (walk_size w) (walk_high w r.high) (walk_low w)

  -- the steps of a pass up to a clause are few
  pub steps_few : (at : ℕ) {before after : ℕ} {b' : List ℤ} → before ≤ 2 ^ 62 → Walked floor (take at cs) b b' before after → after < 2 ^ 63
  steps_few at h w = omega (arith, h, w.counted, walk_few w.walk, length-take at cs, r.short)

  module _ {b' : List ℤ} {s s' : ℕ} (c : Came floor cs b b' s s') where
    pub came_room : room floor b' + s' ≤ room floor b + s
    came_room = omega (arith, c.counted, passing_room c.passes.passing targets r.high)

    pub came_few : s' ≤ 2 ^ 38 + s
    came_few = omega (arith, came_room, room_bound)

    pub came_runnable : Runnable floor cs b'
    came_runnable = lowered (passing_size c.passes.passing) (passing_high c.passes.passing r.high) (passing_low c.passes.passing)

    pub came_ends : {w : Run} → Ends floor cs b' s' w → Ends floor cs b s w
    came_ends {w = w} e = ends_after c.passes.passing targets r.high s (subst (λ (n : ℕ). Ends floor cs b' n w) c.counted e)

pub came_none : (floor : ℤ) (cs : List Clause) (b : List ℤ) (s : ℕ) → Came floor cs b b s s
came_none floor cs b s = record { made = 0; counted = omega arith; passes = made_none b }

module _ {floor : ℤ} {cs : List Clause} {b₀ b b' : List ℤ} {s₀ s : ℕ} (c : Came floor cs b₀ b s₀ s) where
  pub came_passes : {k : ℕ} → PassesMade cs floor b b' k → Came floor cs b₀ b' s₀ (s + k)
  came_passes {k = k} m = record { made = c.made + k; counted = omega (arith, c.counted); passes = made_then c.passes m }

  pub came_pass : {s' : ℕ} → Walked floor cs b b' s s' → (s' ≡ s → ⊥) → Came floor cs b₀ b' s₀ s'
  came_pass w q =
      record { made = c.made + w.made; counted = omega (arith, c.counted, w.counted); passes = record { passes = _; passing = round c.passes.passing w.walk (omega (arith, w.counted)) } }

-- of what is read as clauses
pub item_fits : {A : Type 0} (f : A → Clause) (l : List A) {floor : ℤ} {b : List ℤ} {i : ℕ} {x : A} → Runnable floor (map f l) b → i < length l → x ≡ get_or l i x → SFits w32 (left_of (time_at b) (f x))
item_fits f l {floor = floor} {b = b} {i = i} {x = x} r h is =
    left_fits r (subst (λ (c : Clause). In c (map f l)) (get_or-map f l i x (f x) h ∙ ap f (sym is)) (at_in (map f l) i (f x) (omega (arith, length-map l f))))

-- a pass without a step, and one that fell
pub pass_planned : {floor : ℤ} {cs : List Clause} {b b' : List ℤ} {s s' : ℕ} → Walked floor cs b b' s s' → s' ≡ s → Ends floor cs b s (end_of (Ok s') b')
pass_planned {floor = floor} {cs = cs} {b = b} {b' = b'} {s = s} w e =
    rw e (ends_planned s (subst (λ (n : ℕ). Walk floor cs b b' n) (omega (arith, w.counted)) w.walk))

pub pass_fell : {floor : ℤ} {cs : List Clause} {b b' : List ℤ} {s : ℕ} (e : Fall) → PassMade floor cs b s b' (Err e) → Ends floor cs b s (end_of (Err e) b')
pass_fell e said = ends_fell said

-- a pass before a clause whose step falls, and that step
pub fell_at : {floor : ℤ} (cs : List Clause) {b m b' : List ℤ} {s k : ℕ} (i : ℕ) → i < length cs → Walked floor (take i cs) b m s k → ((c : Clause) → Falls floor (get_or cs i c) m) → (e : Fall) →
    ((c : Clause) → LastStep (get_or cs i c) m b' k e) → PassMade floor cs b s b' (Err e)
fell_at {floor = floor} cs {b = b} {m = m} {s = s} i h w falls e last =
    let none : Clause = record { first = record { job = 0; offset = pos 0 }; others = []; target = 0 } in
    let c = get_or cs i none in
    let split : take i cs ++ (c ∷ drop (i + 1) cs) ≡ cs = ap (λ (l : List Clause). take i cs ++ l) (sym (drop_more cs i none h)) ∙ take-append-drop i cs in
    rw ((last none).stored, (last none).counted, (last none).told, w.counted)
    (subst (λ (l : List Clause). pass floor l b s ≡ record { times = stepped m c; steps = s + w.made + 1; fallen = Some (slip_at m c) }) split
    (walk_fell s w.walk c (drop (i + 1) cs) (falls none).violated (falls none).low))

pub ends_run : {floor : ℤ} {cs : List Clause} {b : List ℤ} {w : Run} → Ends floor cs b 0 w → w ≡ run floor cs b
unfolding run
ends_run {floor = floor} {b = b} e = e.at (room floor b + 1) (omega arith)

-- where no passes were taken at once, what is settled stays so
pub still_settled : {floor : ℤ} {cs : List Clause} {b b' : List ℤ} {k dirty : ℕ} → PassesMade cs floor b b' k → k ≡ 0 → Settled cs b dirty → Settled cs b' dirty
still_settled {cs = cs} {dirty = dirty} m e s = subst (λ (t : List ℤ). Settled cs t dirty) (sym (made_still m (omega arith))) s
