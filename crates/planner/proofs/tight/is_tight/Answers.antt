use Rattle.std.proofs.Common.{◌≡◌, ◌≤◌, length, arith, rules}
use Rattle.std.proofs.lemmas.Grind.{common_steps}
use Rattle.std.proofs.lemmas.Option.{gets}
use Rattle.std.proofs.lemmas.Result.{err_from_is_err_and}
use Rattle.derivation.specs.Faults.{refusal_for}
use Rattle.derivation.specs.declared.Fault.TheVariants.{NoSuchRule}
use Rattle.planner.proofs.Answering.{taken, rule_in_jobs, tight_no_rule, tight_answered}
use Rattle.planner.proofs.tight.is_tight.Goals as goal

pub returns-in_err-r : goal.returns-in_err-r
returns-in_err-r c =
    let h : length c.args.rules.now ≤ c.args.number = grind (arith, common_steps, gets) in
    let (q, r, same) = err_from_is_err_and c.from_residual-in_err-r.result c.from_residual-in_err-r.ensures.1 in
    let t : q ≡ refusal_for NoSuchRule = search (rules, same) in
    rw (r, t) (tight_no_rule _ _ c.in_ok-check.ensures _ h)

pub is_equality-requires : goal.is_equality-requires
is_equality-requires c =
    let (h, r) = taken c.args.rules.now c.get.result _ c.get.ensures.lookup.3 c.in_ok-r.ensures.value in
    rw r (rule_in_jobs _ _ c.in_ok-check.ensures _ h)

pub returns : goal.returns
returns c =
    let (h, r) = taken c.args.rules.now c.get.result _ c.get.ensures.lookup.3 c.in_ok-r.ensures.value in
    rw (c.is_equality.ensures, r) (tight_answered _ _ c.in_ok-check.ensures _ h)
