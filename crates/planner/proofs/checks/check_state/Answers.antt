use Rattle.std.proofs.Common.{◌≡◌, sym, arith, rules}
use Rattle.std.proofs.lemmas.Result.{err_from_is_err_and}
use Rattle.maxatom.specs.Book.{book}
use Rattle.derivation.specs.Replies.{state_of}
use Rattle.solver.proofs.Steps.{legal_sum}
use Rattle.planner.proofs.Answering.{small_sum, few_times}
use Rattle.planner.proofs.Stepping.{table_refused, least_in, at_lowest, at_floor, board_illegal, board_legal, tally_differs, state_holds}
use Rattle.planner.proofs.checks.check_state.Goals as goal

pub returns-in_err-k : goal.returns-in_err-k
returns-in_err-k c =
    let (q, r, same) = err_from_is_err_and c.from_residual.result c.from_residual.ensures.1 in
    let t : q ≡ c.in_err-k.field-0.0 = search (rules, same) in
    rw (r, t) (table_refused (book c.args.n c.args.latest.now c.args.rules.now) (state_of c.args.times.now c.args.tally) c.in_err-k.field-0.0 c.in_err-k.ensures)

pub overflow_mul-k : goal.overflow_mul-k
overflow_mul-k c = omega (arith, small_sum _ c.args.times.now c.in_ok-k.ensures)

pub floor-lowest-requires : goal.floor-lowest-requires
floor-lowest-requires c =
    record {
      bounded = least_in _ (state_of c.args.times.now c.args.tally) c.in_ok-k.ensures (search rules) c.smallest-least.ensures;
      small = omega (arith, small_sum _ c.args.times.now c.in_ok-k.ensures);
    }

pub floor-floor-requires : goal.floor-floor-requires
floor-floor-requires c =
    record {
      bounded = least_in _ (state_of c.args.times.now c.args.tally) c.in_ok-k.ensures (search rules) c.smallest-least.ensures;
      small = omega (arith, small_sum _ c.args.times.now c.in_ok-k.ensures);
    }

pub returns-then-not-in_range : goal.returns-then-not-in_range
returns-then-not-in_range c =
    let range = at_lowest _ (state_of c.args.times.now c.args.tally) c.in_ok-k.ensures (search rules) c.smallest-least.ensures (search rules) c.floor-lowest.ensures c.if-not-in_range.ensures in
    rw c.into.ensures (board_illegal _ (state_of c.args.times.now c.args.tally) c.in_ok-k.ensures range)

pub tally_fits-requires : goal.tally_fits-requires
tally_fits-requires c =
    let range = at_lowest _ (state_of c.args.times.now c.args.tally) c.in_ok-k.ensures (search rules) c.smallest-least.ensures (search rules) c.floor-lowest.ensures c.if-not-in_range.ensures in
    record {
      few = few_times _ c.args.times.now c.in_ok-k.ensures;
      lowered = legal_sum (board_legal _ (state_of c.args.times.now c.args.tally) c.in_ok-k.ensures range);
    }

pub returns-then-not-tally_fits : goal.returns-then-not-tally_fits
returns-then-not-tally_fits c =
    let range = at_lowest _ (state_of c.args.times.now c.args.tally) c.in_ok-k.ensures (search rules) c.smallest-least.ensures (search rules) c.floor-lowest.ensures c.if-not-in_range.ensures in
    rw c.into-then-not-tally_fits.ensures (tally_differs _ (state_of c.args.times.now c.args.tally) c.in_ok-k.ensures range (sym c.if-not-tally_fits.ensures))

pub returns : goal.returns
returns c =
    let range = at_lowest _ (state_of c.args.times.now c.args.tally) c.in_ok-k.ensures (search rules) c.smallest-least.ensures (search rules) c.floor-lowest.ensures c.if-not-in_range.ensures in
    let low = at_floor _ (state_of c.args.times.now c.args.tally) c.in_ok-k.ensures (search rules) c.smallest-least.ensures (search rules) c.floor-floor.ensures in
    state_holds _ (state_of c.args.times.now c.args.tally) c.in_ok-k.ensures range (sym c.if-not-tally_fits.ensures) low
