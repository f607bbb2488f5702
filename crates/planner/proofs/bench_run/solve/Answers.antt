use Rattle.std.proofs.Common.{◌≡◌, rules}
use Rattle.std.proofs.lemmas.Result.{err_from_is_err_and}
use Rattle.maxatom.specs.Book.{book}
use Rattle.planner.proofs.Checking.{sound, listed, same_size}
use Rattle.planner.proofs.Answering.{solved_refused, solved_run}
use Rattle.planner.proofs.bench_run.solve.Goals as goal

pub returns-in_err-k : goal.returns-in_err-k
returns-in_err-k c =
    let (q, r, same) = err_from_is_err_and c.from_residual.result c.from_residual.ensures.1 in
    let t : q ≡ c.in_err-k.field-0.0 = search (rules, same) in
    rw (r, t) (solved_refused (book c.args.n c.args.latest.now c.args.rules.now) c.args.times.now c.in_err-k.field-0.0 c.in_err-k.ensures)

pub solve-requires : goal.solve-requires
solve-requires c =
    record {
      accepted = listed _ _ c.in_ok-k.ensures;
      room = same_size _ _ c.in_ok-k.ensures;
      k_value = (sound _ _ c.in_ok-k.ensures).sum;
    }

pub returns : goal.returns
returns c = solved_run _ _ c.in_ok-k.ensures _ _ c.solve.ensures
