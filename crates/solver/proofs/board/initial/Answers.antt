use Rattle.std.proofs.Common.{rules, ◌≡◌, sym, ◌∙◌}
use Rattle.std.proofs.lemmas.Result.{err_from_is_err_and}
use Rattle.solver.proofs.Laws.{initial_count, initial_latest, latest_size, initial_size, initial_done}
use Rattle.solver.proofs.board.initial.Goals as goal

pub returns-then-n-lt1-clause-times_after : goal.returns-then-n-lt1-clause-times_after
returns-then-n-lt1-clause-times_after c = (initial_count _ _ _ c.then-n-lt1.either).1

pub returns-in_err-check_latest : goal.returns-in_err-check_latest
returns-in_err-check_latest c =
    let (q, r, same) = err_from_is_err_and c.from_residual.result c.from_residual.ensures.1 in
    let t : q ≡ c.in_err-check_latest.field-0.0 = search (rules, same) in
    let e = initial_latest _ _ _ c.if-n-lt1.false c.if-n-gt256.false c.in_err-check_latest.field-0.0 c.in_err-check_latest.ensures in
    rw (r, t) (record { result_value = e.0; times_after = e.1 })

pub returns-then-times-n : goal.returns-then-times-n
returns-then-times-n c =
    let e = initial_size _ _ _ c.if-n-lt1.false c.if-n-gt256.false c.in_ok-check_latest.ensures c.if-times-n.true in
    rw c.into-then-times-n.ensures (record { result_value = e.0; times_after = e.1 })

pub copy-requires : goal.copy-requires
copy-requires c =
    c.if-times-n.false ∙ sym (latest_size c.args.n c.args.latest.now c.args.times.now c.if-n-lt1.false c.if-n-gt256.false c.in_ok-check_latest.ensures)

pub returns : goal.returns
returns c =
    let e = initial_done c.args.n c.args.latest.now c.args.times.now c.if-n-lt1.false c.if-n-gt256.false c.in_ok-check_latest.ensures c.if-times-n.false in
    rw c.copy.ensures (record { result_value = e.0; times_after = e.1 })
