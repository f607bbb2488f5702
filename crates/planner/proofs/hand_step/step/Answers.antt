use Rattle.std.proofs.Common.{◌≡◌, ◌≤◌, length, refl, sym, ap, arith, rules}
use Rattle.std.proofs.lemmas.Grind.{common_steps}
use Rattle.std.proofs.lemmas.Option.{gets}
use Rattle.std.proofs.lemmas.Result.{err_from_is_err_and}
use Rattle.maxatom.specs.Book.{book}
use Rattle.derivation.specs.Faults.{refusal_for}
use Rattle.derivation.specs.declared.Fault.TheVariants.{NoSuchRule}
use Rattle.derivation.specs.Refusals.{answer}
use Rattle.derivation.specs.Replies.{state_of}
use Rattle.derivation.specs.Step.{State}
use Rattle.planner.proofs.Answering.{taken}
use Rattle.planner.proofs.Stepping.{standing, at_told, rule_in_board, step_room, step_refused, step_no_rule, step_low, step_kept, step_done}
use Rattle.planner.proofs.hand_step.step.Goals as goal

pub returns-in_err-floor : goal.returns-in_err-floor
returns-in_err-floor c =
    let (q, r, same) = err_from_is_err_and c.from_residual.result c.from_residual.ensures.1 in
    let t : q ≡ c.in_err-floor.field-0.0 = search (rules, same) in
    let e = step_refused (book c.args.n c.args.latest.now c.args.rules.now) (state_of c.args.times.now c.args.tally.now) c.args.number c.in_err-floor.field-0.0 c.in_err-floor.ensures in
    rw (r, t, e) (record { said = refl; times_after = refl; tally_after = refl })

pub returns-in_err-r : goal.returns-in_err-r
returns-in_err-r c =
    let h : length c.args.rules.now ≤ c.args.number = grind (arith, common_steps, gets) in
    let (q, r, same) = err_from_is_err_and c.from_residual-in_err-r.result c.from_residual-in_err-r.ensures.1 in
    let t : q ≡ refusal_for NoSuchRule = search (rules, same) in
    let e = step_no_rule _ _ c.args.number (standing _ (state_of c.args.times.now c.args.tally.now) c.in_ok-floor.ensures) h in
    rw (r, t, e) (record { said = refl; times_after = refl; tally_after = refl })

pub returns-then-below_floor : goal.returns-then-below_floor
returns-then-below_floor c =
    let (h, r) = taken c.args.rules.now c.get.result _ c.get.ensures.lookup.3 c.in_ok-r.ensures.value in
    let above = at_told _ (state_of c.args.times.now c.args.tally.now) c.in_ok-floor.ensures (search rules) c.if-below_floor.ensures in
    let e = step_low _ _ c.args.number (standing _ (state_of c.args.times.now c.args.tally.now) c.in_ok-floor.ensures) h above in
    rw (c.into.ensures, e) (record { said = refl; times_after = refl; tally_after = refl })

pub is_satisfied-requires : goal.is_satisfied-requires
is_satisfied-requires c =
    let (h, r) = taken c.args.rules.now c.get.result _ c.get.ensures.lookup.3 c.in_ok-r.ensures.value in
    rw r (rule_in_board _ _ c.args.number (standing _ (state_of c.args.times.now c.args.tally.now) c.in_ok-floor.ensures) h)

pub returns-then-is_satisfied : goal.returns-then-is_satisfied
returns-then-is_satisfied c =
    let (h, r) = taken c.args.rules.now c.get.result _ c.get.ensures.lookup.3 c.in_ok-r.ensures.value in
    let above = at_told _ (state_of c.args.times.now c.args.tally.now) c.in_ok-floor.ensures (search rules) c.if-below_floor.ensures in
    let e = step_kept _ _ c.args.number (standing _ (state_of c.args.times.now c.args.tally.now) c.in_ok-floor.ensures) h above (sym (rw r at c.if-is_satisfied.ensures)) in
    rw (c.into-then-is_satisfied.ensures, e) (record { said = refl; times_after = refl; tally_after = refl })

pub take_step-requires : goal.take_step-requires
take_step-requires c =
    let (h, r) = taken c.args.rules.now c.get.result _ c.get.ensures.lookup.3 c.in_ok-r.ensures.value in
    let above = at_told _ (state_of c.args.times.now c.args.tally.now) c.in_ok-floor.ensures (search rules) c.if-below_floor.ensures in
    rw (← r) at (step_room _ _ c.args.number (standing _ (state_of c.args.times.now c.args.tally.now) c.in_ok-floor.ensures) h above (sym (rw r at c.if-is_satisfied.ensures)))

pub returns : goal.returns
returns c =
    let (h, r) = taken c.args.rules.now c.get.result _ c.get.ensures.lookup.3 c.in_ok-r.ensures.value in
    let above = at_told _ (state_of c.args.times.now c.args.tally.now) c.in_ok-floor.ensures (search rules) c.if-below_floor.ensures in
    let e = step_done _ _ c.args.number (standing _ (state_of c.args.times.now c.args.tally.now) c.in_ok-floor.ensures) h above (sym (rw r at c.if-is_satisfied.ensures)) in
    let s = rw r at c.take_step.ensures.state_after in
    rw e (record { said = ap answer (rw r at c.take_step.ensures.told); times_after = ap (λ (state : State). state.times) s; tally_after = ap (λ (state : State). state.tally) s })
