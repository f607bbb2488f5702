-- Walks: what they leave, how they join, what they keep, and the passes that they are. Over clauses with any number of arms. Assumes nothing.
use mathlib.Core.Path.{◌≡◌, refl, sym, ap, subst, ◌∙◌}
use mathlib.Core.List.{List, [], ◌∷◌, ◌++◌}
use Prim.Native.Nat.{ℕ, ◌+◌, ◌≤◌, ◌<◌}
use native.Mathlib.Omega.{arith}
use lib.ListN.{length, set, length-set}
use lib.Seq.{get_or-set_same}
use lib.IntN.{ℤ, pos}
use lib.Signed.{◌≤ℤ◌, ◌<ℤ◌}
use Rattle.std.specs.Prelude.{Some, None}
use Rattle.maxatom.specs.Rule.{time_at, minutes_off}
use Rattle.maxatom.specs.Book.{Each}
use Rattle.maxatom.specs.declared.Arm.{Arm}
use Rattle.maxatom.specs.Clauses.{Clause, Assignment, greatest, left_of, arms_of, Keeps, kept, stepped}
use Rattle.maxatom.specs.Inner.{In, here, there}
use Rattle.maxatom.specs.Passes.{Walk, done, keep, lower}
use Rattle.maxatom.specs.Runs.{slip_at, pass, room}
use Rattle.maxatom.proofs.Choose.{cond_yes, cond_no}
use Rattle.maxatom.proofs.Integers.{up, dn, le_read, le_make, lt_read, eq_make, off_parts, true_le, false_le, true_lt, false_lt, ≤ℤ-trans}
use Rattle.maxatom.proofs.Lists.{set_time, sum_set}
use Rattle.maxatom.proofs.Clauses.{Below}

-- the left side is the same where the times of the arms' jobs are
pub same_greatest : (s t : Assignment) (a : Arm) (l : List Arm) → ((b : Arm) → In b (a ∷ l) → s b.job ≡ t b.job) → greatest s a l ≡ greatest t a l
unfolding greatest
same_greatest s t a [] e = rw (e a here)
same_greatest s t a (b ∷ l) e = rw (e a here, same_greatest s t b l (λ d i. e d (there i)))

-- steps and walks only lower
pub step_low : (b : List ℤ) (c : Clause) → left_of (time_at b) c <ℤ time_at b c.target → Below (time_at (stepped b c)) (time_at b)
step_low b c v job =
    set_time (λ (t : ℤ). t ≤ℤ time_at b job) b c.target job _ (le_make (omega arith))
    (λ e. subst (λ (n : ℕ). left_of (time_at b) c ≤ℤ time_at b n) e (le_make (omega (arith, lt_read v))))

pub walk_low : {floor : ℤ} {cs : List Clause} {b b' : List ℤ} {s : ℕ} → Walk floor cs b b' s → Below (time_at b') (time_at b)
walk_low done job = le_make (omega arith)
walk_low (keep k w) job = walk_low w job
walk_low (lower {c = c} {b = b} v f w) job = ≤ℤ-trans (walk_low w job) (step_low b c v job)

-- every time is at or above the floor
abbrev pub High : ℤ → List ℤ → Type 0
High floor b = (job : ℕ) → floor ≤ℤ time_at b job

-- every target is a job of the times
abbrev pub Targets : List ℤ → List Clause → Type 0
Targets b cs = Each (λ (c : Clause). c.target < length b) cs

targets_set : (b : List ℤ) (i : ℕ) (v : ℤ) (cs : List Clause) → Targets b cs → Targets (set b i v) cs
targets_set b i v cs e = subst (λ (n : ℕ). Each (λ (c : Clause). c.target < n) cs) (sym (length-set b i v)) e

-- a step stays high where the left side is
pub step_high : {floor : ℤ} (b : List ℤ) (c : Clause) → floor ≤ℤ left_of (time_at b) c → High floor b → High floor (stepped b c)
step_high {floor = floor} b c h up job = set_time (λ (t : ℤ). floor ≤ℤ t) b c.target job _ (up job) (λ e. h)

-- a step takes a minute or more off the room
step_room : {floor : ℤ} (b : List ℤ) (c : Clause) → left_of (time_at b) c <ℤ time_at b c.target → floor ≤ℤ left_of (time_at b) c → High floor b → c.target < length b →
    room floor (stepped b c) + 1 ≤ room floor b
step_room {floor = floor} b c v h up j =
    let left = left_of (time_at b) c in
    omega (
      arith,
      sum_set (λ t. minutes_off t floor) b c.target left j,
      off_parts left floor h,
      off_parts (time_at b c.target) floor (up c.target),
      lt_read v,
    )

module _ {floor : ℤ} where
  pub walk_size : {cs : List Clause} {b b' : List ℤ} {s : ℕ} → Walk floor cs b b' s → length b' ≡ length b
  walk_size done = refl
  walk_size (keep k w) = walk_size w
  walk_size (lower {c = c} {b = b} v h w) = walk_size w ∙ length-set b c.target (left_of (time_at b) c)

  pub walk_few : {cs : List Clause} {b b' : List ℤ} {s : ℕ} → Walk floor cs b b' s → s ≤ length cs
  walk_few done = omega arith
  walk_few (keep k w) = omega (arith, walk_few w)
  walk_few (lower v h w) = omega (arith, walk_few w)

  pub walk_high : {cs : List Clause} {b b' : List ℤ} {s : ℕ} → Walk floor cs b b' s → High floor b → High floor b'
  walk_high done up = up
  walk_high (keep k w) up = walk_high w up
  walk_high (lower {c = c} {b = b} v h w) up = walk_high w (step_high b c h up)

  pub walk_room : {cs : List Clause} {b b' : List ℤ} {s : ℕ} → Walk floor cs b b' s → Targets b cs → High floor b → room floor b' + s ≤ room floor b
  walk_room done e up = omega arith
  walk_room (keep k w) e up = walk_room w e.1 up
  walk_room (lower {c = c} {cs = cs} {b = b} v h w) e up =
      omega (arith, walk_room w (targets_set b c.target (left_of (time_at b) c) cs e.1) (step_high b c h up), step_room b c v h up e.0)

  -- a walk goes on where another ended
  pub walk_join : {cs ds : List Clause} {a b d : List ℤ} {s k : ℕ} → Walk floor cs a b s → Walk floor ds b d k → Walk floor (cs ++ ds) a d (s + k)
  walk_join {ds = ds} {a = a} {d = d} {k = k} done x = subst (λ (n : ℕ). Walk floor ds a d n) (omega arith) x
  walk_join (keep h w) x = keep h (walk_join w x)
  walk_join {cs = cs} {ds = ds} {a = a} {d = d} {k = k} (lower {s = s} v h w) x =
      subst (λ (n : ℕ). Walk floor (cs ++ ds) a d n) (omega arith) (lower v h (walk_join w x))

  -- by one clause more
  module _ {cs : List Clause} {a b : List ℤ} {s : ℕ} (w : Walk floor cs a b s) (c : Clause) where
    pub walk_keep : Keeps (time_at b) c → Walk floor (cs ++ (c ∷ [])) a b s
    walk_keep h = subst (λ (n : ℕ). Walk floor (cs ++ (c ∷ [])) a b n) (omega arith) (walk_join w (keep h done))

    pub walk_lower : left_of (time_at b) c <ℤ time_at b c.target → floor ≤ℤ left_of (time_at b) c → Walk floor (cs ++ (c ∷ [])) a (stepped b c) (s + 1)
    walk_lower v h = walk_join w (lower v h done)

  -- a walk is a pass without a fall
  pub walk_pass : {cs : List Clause} {b b' : List ℤ} {k : ℕ} (s : ℕ) → Walk floor cs b b' k → pass floor cs b s ≡ record { times = b'; steps = s + k; fallen = None }
  unfolding pass kept
  walk_pass {b = b} s done = ap (λ (n : ℕ). record { times = b; steps = n; fallen = None }) (omega arith)
  walk_pass s (keep h w) = cond_yes _ _ (true_le h) ∙ walk_pass s w
  walk_pass {b' = b'} s (lower {s = k} v h w) =
      cond_no _ _ (false_le v) ∙ (cond_no _ _ (false_lt h) ∙ (walk_pass (s + 1) w ∙ ap (λ (n : ℕ). record { times = b'; steps = n; fallen = None }) (omega arith)))

  -- a walk before a clause whose step falls is a pass with that fall
  pub walk_fell : {cs : List Clause} {b b' : List ℤ} {k : ℕ} (s : ℕ) → Walk floor cs b b' k → (c : Clause) (ds : List Clause) → left_of (time_at b') c <ℤ time_at b' c.target →
      left_of (time_at b') c <ℤ floor → pass floor (cs ++ (c ∷ ds)) b s ≡ record { times = stepped b' c; steps = s + k + 1; fallen = Some (slip_at b' c) }
  unfolding pass kept
  walk_fell {b = b} s done c ds v low =
      cond_no _ _ (false_le v) ∙ (cond_yes _ _ (true_lt low) ∙ ap (λ (n : ℕ). record { times = stepped b c; steps = n + 1; fallen = Some (slip_at b c) }) (omega arith))
  walk_fell s (keep h w) c ds v low = cond_yes _ _ (true_le h) ∙ walk_fell s w c ds v low
  walk_fell {b' = b'} s (lower {s = k} p h w) c ds v low =
      cond_no _ _ (false_le p)
      ∙ (cond_no _ _ (false_lt h) ∙ (walk_fell (s + 1) w c ds v low ∙ ap (λ (n : ℕ). record { times = stepped b' c; steps = n + 1; fallen = Some (slip_at b' c) }) (omega arith)))

-- no arm's job has another time
abbrev pub Still : List ℤ → List ℤ → Clause → Type 0
Still b b' c = (a : Arm) → In a (arms_of c) → time_at b' a.job ≡ time_at b a.job

-- after a walk, a clause of it is kept where no arm's job changed
pub still_kept : {floor : ℤ} {cs : List Clause} {b b' : List ℤ} {s : ℕ} → Walk floor cs b b' s → {c : Clause} → In c cs → c.target < length b → Still b b' c → Keeps (time_at b') c
still_kept done i long still = elim i [ ]
still_kept {b = b} {b' = b'} (keep h w) {c = c} here long still =
    rw (same_greatest (time_at b') (time_at b) c.first c.others still) (≤ℤ-trans (walk_low w c.target) h)
still_kept (keep h w) (there i) long still = still_kept w i long still
still_kept {b = b} {b' = b'} (lower p q w) {c = c} here long still =
    rw (same_greatest (time_at b') (time_at b) c.first c.others still)
    (subst (λ (x : ℤ). time_at b' c.target ≤ℤ x) (get_or-set_same b c.target (left_of (time_at b) c) (pos 0) long) (walk_low w c.target))
still_kept {b = b} {b' = b'} (lower {c = d} p q w) {c = c} (there i) long still =
    still_kept w i (subst (λ (n : ℕ). c.target < n) (sym (length-set b d.target (left_of (time_at b) d))) long)
    (λ a j. eq_make (omega (arith, le_read (walk_low w a.job), le_read (step_low b d p a.job), ap up (still a j), ap dn (still a j))))

-- a clause that was kept still is, where times only fell and no arm's job changed
pub kept_still : (b b' : List ℤ) (c : Clause) → Keeps (time_at b) c → Below (time_at b') (time_at b) → Still b b' c → Keeps (time_at b') c
kept_still b b' c k low still = rw (same_greatest (time_at b') (time_at b) c.first c.others still) (≤ℤ-trans (low c.target) k)
