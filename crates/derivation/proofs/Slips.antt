-- What a hand step tells, and that a step back by what it told leaves board and tally as they were, on any arguments. Assumes nothing.
use mathlib.Core.Path.{◌≡◌, refl, sym, ap, subst, ◌∙◌}
use mathlib.Core.Bool.{true, false, not}
use mathlib.Core.List.{List, [], ◌∷◌}
use Prim.Native.Nat.{ℕ, zero, suc, ◌+◌, ◌-◌, ◌<◌}
use native.Mathlib.Omega.{arith}
use lib.ListN.{length, set, length-set}
use lib.Seq.{get_or-set_same}
use lib.IntN.{ℤ, pos, neg_ℤ, ◌+ℤ◌, ◌-ℤ◌}
use lib.Signed.{◌≤ℤ◌, ◌<ℤ◌}
use borrow.Author.Tests.{leb-true, leb-false, le-leb, lt-leb, not-false}
use Rattle.std.proofs.lemmas.Bool.{and_from, and_parts}
use Rattle.maxatom.specs.Rule.{time_at, left_side, minutes_off}
use Rattle.maxatom.specs.Book.{Each, Book, total, floor}
use Rattle.maxatom.specs.Accepted.{InBook, Accepted}
use Rattle.maxatom.specs.Clauses.{clause_of, left_of}
use Rattle.maxatom.specs.declared.Rule.{Rule}
use Rattle.maxatom.specs.declared.Slip.{Slip}
use Rattle.maxatom.proofs.Integers.{up, dn, le_read, le_make, lt_read, eq_make, le_true, true_le, eq_true, true_eq, add_parts, neg_parts, off_parts}
use Rattle.maxatom.proofs.Lists.{each_join, sum_set}
use Rattle.maxatom.proofs.Derivations.{start, step, not_far}
use Rattle.maxatom.proofs.Rules.{left_same, in_clauses, weighed, floor_parts}
use Rattle.derivation.specs.Refusals.{Reply, answer, accepts, lent, times_checks}
use Rattle.derivation.specs.Step.{State, no_rule, rule_at, lowest, in_range, below_floor, sum_z, fits, state_checks, step_checks, slip_of, step_on, called_by, step_call}
use Rattle.derivation.specs.Back.{back_on, back_checks, back_call}
use Rattle.derivation.specs.declared.Tally.{Tally}
use Rattle.derivation.specs.Demands.{Told, StepTells}
use Rattle.derivation.specs.TakingBack.{BackDue, Restores}
use Rattle.derivation.proofs.Checks.{Passes, each_left, passed, accepting, times_pass, times_all_pass}
use Rattle.derivation.proofs.Reached.{test_high, floor_low, sum_parts, lowest_parts, call_passes, call_skips, call_done}
use Rattle.derivation.proofs.AnyOrder.{each_at, broken, differs_not, short_not}

pub answer_is : {A : Type 0} {v w : A} → answer v ≡ answer w → v ≡ w
answer_is e = cc

-- a time put back
pub set_back : (times : List ℤ) (job : ℕ) (v : ℤ) → set (set times job v) job (time_at times job) ≡ times
set_back [] job v = refl
set_back (t ∷ times) zero v = refl
set_back (t ∷ times) (suc job) v = ap (λ (l : List ℤ). t ∷ l) (set_back times job v)

-- a hand step that is answered: what its checks have seen, and what it left
record Answered (b : Book) (state : State) (number : ℕ) (slip : Slip) : Type 0 where
  accepted : Accepted b
  size : length state.times ≡ b.jobs
  range : in_range (lowest b) b.latest state.times ≡ true
  fit : fits b.latest state.tally state.times ≡ true
  of_book : number < length b.rules
  above : below_floor (floor b) state.times ≡ false
  violated : left_side (rule_at b.rules number) state.times <ℤ time_at state.times (rule_at b.rules number).z
  told : slip ≡ slip_of (rule_at b.rules number) state.times
  left : (step_call b state number).after ≡ step_on (rule_at b.rules number) state

seen : (b : Book) (state : State) (number : ℕ) (slip : Slip) → (step_call b state number).said ≡ answer slip → Answered b state number slip
unfolding step_call called_by step_checks state_checks accepts lent
seen b state number slip e =
    let r = rule_at b.rules number in
    let told = slip_of r state.times in
    let p = passed (step_checks b state number) told (ap accepts e) in
    let parts = each_left Passes (state_checks b state) _ p in
    let board = each_left Passes (times_checks b state.times) _ parts.0 in
    let (a, size) = times_all_pass b state.times board.0 in
    let whole = accepting (step_checks b state number) told p in
    record {
      accepted = a;
      size = size;
      range = not-false _ board.1.0;
      fit = not-false _ board.1.1.0;
      of_book = leb-false (length b.rules) number parts.1.0;
      above = parts.1.1.0;
      violated = broken r state.times parts.1.1.1.0;
      told = answer_is (sym e ∙ whole);
      left = ap (λ (said : Reply Slip). lent said state (step_on r state)) whole;
    }

-- times in range, with one of them lowered to a time in range
range_at : (low : ℤ) (latest times : List ℤ) → length times ≡ length latest → in_range low latest times ≡ true → (job : ℕ) → job < length times →
    (low ≤ℤ time_at times job) × (time_at times job ≤ℤ time_at latest job)
unfolding in_range
range_at low [] [] e h job i = absurd (omega arith)
range_at low [] (t ∷ times) e h job i = absurd (omega arith)
range_at low (l ∷ latest) [] e h job i = absurd (omega arith)
range_at low (l ∷ latest) (t ∷ times) e h zero i = let (first, rest) = and_parts _ _ h in let (p, q) = and_parts _ _ first in (le_true p, le_true q)
range_at low (l ∷ latest) (t ∷ times) e h (suc job) i = range_at low latest times (omega arith) (and_parts _ _ h).1 job (omega arith)

range_set : (low : ℤ) (latest times : List ℤ) (job : ℕ) (v : ℤ) → in_range low latest times ≡ true → low ≤ℤ v → v ≤ℤ time_at times job → in_range low latest (set times job v) ≡ true
unfolding in_range
range_set low [] times job v h p q = refl
range_set low (l ∷ latest) [] job v h p q = refl
range_set low (l ∷ latest) (t ∷ times) zero v h p q =
    let (first, rest) = and_parts _ _ h in
    let (below, under) = and_parts _ _ first in
    and_from _ _ (and_from _ _ (true_le {a = low} {b = v} p) (true_le {a = v} {b = l} (le_make (omega (arith, le_read q, le_read (le_true {a = t} {b = l} under)))))) rest
range_set low (l ∷ latest) (t ∷ times) (suc job) v h p q =
    let (first, rest) = and_parts _ _ h in
    and_from _ _ first (range_set low latest times job v rest p q)

module _ (b : Book) (state : State) (number : ℕ) (slip : Slip) (s : Answered b state number slip) where
  abbrev r : Rule
  r = rule_at b.rules number

  abbrev next : State
  next = step_on r state

  inside : r.z < length state.times
  inside = rw s.size (each_at (InBook b.jobs) b.rules number s.of_book s.accepted.rules_in).third

  tells : Told r state.times (step_call b state number).after.times slip
  unfolding step_on
  tells =
      record {
        job_is = ap (λ (t : Slip). t.job) s.told;
        before_is = ap (λ (t : Slip). t.before) s.told;
        after_is =
            ap (λ (t : Slip). t.after) s.told
            ∙ sym (ap (λ (t : State). time_at t.times r.z) s.left ∙ get_or-set_same state.times r.z (left_side r state.times) (pos 0) inside);
      }

  -- above the floor, no rule allows a time below the lowest legal one
  low_enough : lowest b ≤ℤ left_side r state.times
  low_enough =
      let high = test_high (floor b) state.times (floor_low s.accepted) s.above in
      let far = not_far (weighed b.rules) high
      (step (clause_of r) start
      (record { among = in_clauses b.rules number no_rule s.of_book; high = high; violated = rw (left_same r state.times) s.violated })) r.z in
      let left : (floor b) ≤ℤ (left_side r state.times +ℤ pos (total b.rules)) =
      rw (get_or-set_same state.times r.z (left_of (time_at state.times) (clause_of r)) (pos 0) inside, left_same r state.times) at far in
      le_make (omega (arith, le_read left, add_parts (left_side r state.times) (pos (total b.rules)), floor_parts b, lowest_parts b))

  -- what is then checked of the board and the tally
  next_range : in_range (lowest b) b.latest next.times ≡ true
  unfolding step_on
  next_range = range_set (lowest b) b.latest state.times r.z (left_side r state.times) s.range low_enough (le_make (omega (arith, lt_read s.violated)))

  next_fits : fits b.latest next.tally next.times ≡ true
  unfolding fits step_on
  next_fits =
      let left = left_side r state.times in
      let time = time_at state.times r.z in
      let (same, few) = and_parts _ _ s.fit in
      let e : pos state.tally.minutes ≡ sum_z b.latest -ℤ sum_z state.times = eq_true _ _ same in
      let off = off_parts time left (le_make (omega (arith, lt_read s.violated))) in
      and_from _ _
      (true_eq _ _
      (eq_make
      (omega (
        arith,
        ap up e,
        ap dn e,
        off,
        sum_parts state.times,
        sum_parts (set state.times r.z left),
        sum_set up state.times r.z left inside,
        sum_set dn state.times r.z left inside,
        neg_parts (sum_z state.times),
        neg_parts (sum_z (set state.times r.z left)),
        add_parts (sum_z b.latest) (neg_ℤ (sum_z state.times)),
        add_parts (sum_z b.latest) (neg_ℤ (sum_z (set state.times r.z left))),
      ))))
      (le-leb _ _ (omega (arith, leb-true _ _ few, off, lt_read s.violated)))

  next_passes : Each Passes (state_checks b next)
  unfolding state_checks step_on
  next_passes =
      each_join Passes (times_checks b next.times) _ (times_pass next.times s.accepted (length-set state.times r.z _ ∙ s.size))
      (ap not next_range, (ap not next_fits, tt))

  -- the slip put back
  put_back : back_on (slip_of r state.times) next ≡ state
  unfolding step_on
  put_back =
      let t = set_back state.times r.z (left_side r state.times) in
      ap (λ (l : List ℤ). record { times = l; tally = back_tally }) t ∙ ap (λ (g : Tally). record { times = state.times; tally = g }) tally_is
    where
      off : ℕ
      off = minutes_off (time_at state.times r.z) (left_side r state.times)

      back_tally : Tally
      back_tally = record { steps = state.tally.steps + 1 - 1; minutes = state.tally.minutes + off - off }

      tally_is : back_tally ≡ state.tally
      tally_is = ap (λ (n : ℕ). record { steps = n; minutes = state.tally.minutes + off - off }) (omega arith) ∙ ap (λ (n : ℕ). record { steps = state.tally.steps; minutes = n }) (omega arith)

  due : BackDue b (slip_of r state.times) next
  unfolding step_on
  due =
      record {
        of_book = (each_at (InBook b.jobs) b.rules number s.of_book s.accepted.rules_in).third;
        stands = get_or-set_same state.times r.z (left_side r state.times) (pos 0) inside;
        above = s.violated;
        not_late = (range_at (lowest b) b.latest state.times (s.size ∙ sym s.accepted.size) s.range r.z inside).1;
        has_step = omega arith;
        fits_after = subst (λ (t : State). fits b.latest t.tally t.times ≡ true) (sym put_back) s.fit;
      }

  gives_back : back_call b next (slip_of r state.times) ≡ record { said = answer tt; after = state }
  unfolding back_call back_checks
  gives_back =
      let told = slip_of r state.times in
      call_passes (state_checks b next) _ _ _ _ next_passes
      ∙ (call_skips _ _ _ _ _ (lt-leb b.jobs r.z due.of_book)
      ∙ (call_skips _ _ _ _ _ (differs_not s.accepted next told due)
      ∙ (call_skips _ _ _ _ _ (short_not s.accepted next told due)
      ∙ (call_done _ _ _ ∙ ap (λ (t : State). record { said = answer tt; after = t }) put_back))))

pub step_tells : StepTells
step_tells b state number slip e = tells b state number slip (seen b state number slip e)

pub restores : Restores
restores b state number slip e =
    let s = seen b state number slip e in
    ap (λ (t : State). back_call b t slip) s.left
    ∙ (ap (λ (t : Slip). back_call b (step_on (rule_at b.rules number) state) t) s.told ∙ gives_back b state number slip s)
