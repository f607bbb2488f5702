use Rattle.std.proofs.Common.{◌≡◌, refl, rules, arith, true, to_z-of_z, w32, SFits}
use Rattle.std.proofs.lemmas.Result.{err_from_is_err_and}
use Rattle.maxatom.specs.Book.{book}
use Rattle.derivation.specs.Refusals.{refused}
use Rattle.derivation.specs.Back.{slip_differs, back_call}
use Rattle.derivation.specs.Replies.{state_of}
use Rattle.planner.proofs.Stepping.{standing, back_refused, back_no_job, time_differs, no_higher, late, back_differs, enough, back_none, back_many, back_done}
use Rattle.planner.proofs.back.step_back.Goals as goal
use Rattle.planner.proofs.back.step_back.Goals.{then-time-slip-via-then-time-slip, then-time-slip-via-else-time-slip+then-slip, then-time-slip-via-else-time-slip+else-slip+then-latest-job, then-tally-eq0-via-then-tally-eq0, then-tally-eq0-via-else-tally-eq0+then-minutes-tally}

pub returns-in_err-check_state : goal.returns-in_err-check_state
returns-in_err-check_state c =
    let (q, r, same) = err_from_is_err_and c.from_residual.result c.from_residual.ensures.1 in
    let t : q ≡ c.in_err-check_state.field-0.0 = search (rules, same) in
    let e = back_refused (book c.args.n c.args.latest.now c.args.rules.now) (state_of c.args.times.now c.args.tally.now) c.args.slip c.in_err-check_state.field-0.0 c.in_err-check_state.ensures in
    rw (r, t, e) (record { said = refl; times_after = refl; tally_after = refl })

pub returns-then-n-job : goal.returns-then-n-job
returns-then-n-job c =
    let e = back_no_job _ _ c.args.slip (standing _ (state_of c.args.times.now c.args.tally.now) c.in_ok-check_state.ensures) c.if-n-job.true in
    rw (c.into.ensures, e) (record { said = refl; times_after = refl; tally_after = refl })

pub slice_copy_out-time : goal.slice_copy_out-time
slice_copy_out-time c = omega (arith, (standing _ (state_of c.args.times.now c.args.tally.now) c.in_ok-check_state.ensures).size)

pub bounds-latest-job : goal.bounds-latest-job
bounds-latest-job c = omega (arith, (standing _ (state_of c.args.times.now c.args.tally.now) c.in_ok-check_state.ensures).accepted.size)

pub returns-then-time-slip : goal.returns-then-time-slip
returns-then-time-slip c =
    let b = book c.args.n c.args.latest.now c.args.rules.now in
    let state = state_of c.args.times.now c.args.tally.now in
    let d : slip_differs b state c.args.slip ≡ true =
    elim c.then-time-slip.branch [
      | then-time-slip-via-then-time-slip w ↦ time_differs b state c.args.slip w.if-time-slip.true
      | then-time-slip-via-else-time-slip+then-slip w ↦ no_higher b state c.args.slip (search rules) (search rules) (search rules) w.if-time-slip.false w.if-slip.true
      | then-time-slip-via-else-time-slip+else-slip+then-latest-job w ↦
          late b state c.args.slip (search rules) (search rules) (search rules) w.if-time-slip.false (search rules) w.if-slip.false w.if-latest-job.true
    ] in
    let e = back_differs b state c.args.slip (standing b state c.in_ok-check_state.ensures) c.if-n-job.false d in
    rw (c.into-then-time-slip.ensures, e) (record { said = refl; times_after = refl; tally_after = refl })

pub overflow_sub-minutes : goal.overflow_sub-minutes
overflow_sub-minutes c =
    let b = book c.args.n c.args.latest.now c.args.rules.now in
    let state = state_of c.args.times.now c.args.tally.now in
    let alike = late b state c.args.slip (search rules) (search rules) (search rules) c.if-time-slip.false (search rules) c.if-slip.false c.if-latest-job.false in
    rw c.minutes_off.ensures (enough b state c.args.slip (standing b state c.in_ok-check_state.ensures) c.if-n-job.false alike)

pub returns-then-tally-eq0 : goal.returns-then-tally-eq0
returns-then-tally-eq0 c =
    let b = book c.args.n c.args.latest.now c.args.rules.now in
    let state = state_of c.args.times.now c.args.tally.now in
    let alike = late b state c.args.slip (search rules) (search rules) (search rules) c.if-time-slip.false (search rules) c.if-slip.false c.if-latest-job.false in
    let s = standing b state c.in_ok-check_state.ensures in
    let e : back_call b state c.args.slip ≡ record { said = refused 29 0; after = state } =
    elim c.then-tally-eq0.branch [
      | then-tally-eq0-via-then-tally-eq0 w ↦ back_none b state c.args.slip s c.if-n-job.false alike w.if-tally-eq0.true
      | then-tally-eq0-via-else-tally-eq0+then-minutes-tally w ↦
          back_many b state c.args.slip s c.if-n-job.false alike w.if-tally-eq0.false (rw c.minutes_off.ensures at w.if-minutes-tally.true)
    ] in
    rw (c.into-then-tally-eq0.ensures, e) (record { said = refl; times_after = refl; tally_after = refl })

pub bounds-times-job : goal.bounds-times-job
bounds-times-job c = omega (arith, (standing _ (state_of c.args.times.now c.args.tally.now) c.in_ok-check_state.ensures).size)

pub returns : goal.returns
returns c =
    let b = book c.args.n c.args.latest.now c.args.rules.now in
    let state = state_of c.args.times.now c.args.tally.now in
    let alike = late b state c.args.slip (search rules) (search rules) (search rules) c.if-time-slip.false (search rules) c.if-slip.false c.if-latest-job.false in
    let e = back_done b state c.args.slip (standing b state c.in_ok-check_state.ensures) c.if-n-job.false alike c.if-tally-eq0.false (rw c.minutes_off.ensures at c.if-minutes-tally.false) in
    let before : SFits w32 c.args.slip.before = search rules in
    rw (to_z-of_z before, c.minutes_off.ensures, e) (record { said = refl; times_after = refl; tally_after = refl })
