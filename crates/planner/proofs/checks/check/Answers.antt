use Rattle.std.proofs.Common.{rules, arith, ◌≡◌, sym, ◌∙◌}
use Rattle.std.proofs.lemmas.Result.{err_from_is_err_and}
use mir.Facts.{to_z-of_z}
use mir.Syntax.{w32}
use mir.Val.{SFits}
use Rattle.maxatom.specs.Book.{book}
use Rattle.derivation.specs.Step.{rule_at}
use Rattle.planner.proofs.Checking.{mapped_err, mapped_ok, few_jobs, many_rules, checked_none, checked_fault, checked_next, checked_latest, checked_size, checked_all}
use Rattle.planner.proofs.checks.check.Goals as goal

pub returns-then-n-lt1 : goal.returns-then-n-lt1
returns-then-n-lt1 c = rw c.into.ensures (few_jobs (book c.args.n c.args.latest.now c.args.rules.now) c.args.times.now c.then-n-lt1.either)

pub returns-then-rules-gt1024 : goal.returns-then-rules-gt1024
returns-then-rules-gt1024 c =
    rw c.into-then-rules-gt1024.ensures
    (many_rules (book c.args.n c.args.latest.now c.args.rules.now) c.args.times.now c.if-n-lt1.false c.if-n-gt256.false c.if-rules-gt1024.true)

pub loop-i-init : goal.loop-i-init
loop-i-init c = checked_none _ _ c.if-n-lt1.false c.if-n-gt256.false c.if-rules-gt1024.false

pub returns-in_err-map_err : goal.returns-in_err-map_err
returns-in_err-map_err c =
    let (fault, e, p) = mapped_err _ c.check_rule.result c.map_err.ensures.cases c.in_err-map_err.was in
    let s : c.in_err-map_err.field-0.0 ≡ record { fault = fault; place = c.loop-i.i-counter } = search rules in
    let (q, r, same) = err_from_is_err_and c.from_residual.result c.from_residual.ensures.1 in
    let t : q ≡ record { fault = fault; place = c.loop-i.i-counter } = search (rules, same, s) in
    rw (r, t) (checked_fault _ _ c.loop-i.invariant _ (omega arith) (sym c.check_rule.ensures ∙ e))

pub overflow_add-k : goal.overflow_add-k
overflow_add-k c = omega (arith, c.loop-i.invariant.small, c.unsigned_abs-k.ensures.bound)

pub loop-i-preserved : goal.loop-i-preserved
loop-i-preserved c =
    let (x, e) = mapped_ok c.check_rule.result c.map_err.ensures.variant c.in_ok-map_err.was in
    let f : SFits w32 (rule_at c.args.rules.now c.loop-i.i-counter).k = search rules in
    rw (c.unsigned_abs-k.ensures.value, to_z-of_z f) (checked_next _ _ c.loop-i.invariant _ (omega arith) (sym c.check_rule.ensures ∙ e))

pub returns-in_err-check_latest : goal.returns-in_err-check_latest
returns-in_err-check_latest c =
    let (q, r, same) = err_from_is_err_and c.from_residual-in_err-check_latest.result c.from_residual-in_err-check_latest.ensures.1 in
    let t : q ≡ c.in_err-check_latest.field-0.0 = search (rules, same) in
    rw (r, t) (checked_latest _ _ c.loop-i.invariant (omega arith) c.in_err-check_latest.field-0.0 c.in_err-check_latest.ensures)

pub returns-then-times-n : goal.returns-then-times-n
returns-then-times-n c = rw c.into-then-times-n.ensures (checked_size _ _ c.loop-i.invariant (omega arith) c.in_ok-check_latest.ensures c.if-times-n.true)

pub returns : goal.returns
returns c = checked_all _ _ c.loop-i.invariant (omega arith) c.in_ok-check_latest.ensures c.if-times-n.false
