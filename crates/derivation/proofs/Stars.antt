-- The joint claim about the ★ examples, computed from the definitions. Assumes nothing.
use mathlib.Core.Path.{◌≡◌, refl}
use mathlib.Core.Bool.{true, xor}
use Rattle.maxatom.specs.Rule.{max_z, left_side, satisfied, eq_z, tight, minutes_off}
use Rattle.maxatom.specs.Class.{tautology, contradiction, difference, class_of, number_of_class}
use Rattle.maxatom.specs.Book.{total, smallest}
use Rattle.maxatom.specs.Clauses.{greatest, kept}
use Rattle.maxatom.specs.Runs.{pass, passes, sum_by, run}
use Rattle.derivation.specs.Refusals.{accepts, reply, lent, job_outside, beyond, rule_checks, table_checks, latest_outside, time_checks, latest_checks, book_checks, times_checks}
use Rattle.derivation.specs.Step.{in_range, below_floor, sum_z, fits, state_checks, step_checks, step_on, called_by, step_call}
use Rattle.derivation.specs.Back.{slip_differs, tally_short, back_checks, back_call}
use Rattle.derivation.specs.Run.{solve}
use Rattle.derivation.specs.Calls.{model_check_call, tight_call, run_reply}
use Rattle.derivation.specs.Examples.{stars, same_times, same_slip, says_slip, says_refused, same_end, is_fall, same_state, holds, all_hold, right}

pub stars_right : right stars ≡ true
unfolding max_z left_side satisfied eq_z tight minutes_off xor tautology contradiction difference class_of total smallest accepts reply lent job_outside beyond rule_checks table_checks latest_outside time_checks latest_checks book_checks times_checks in_range below_floor sum_z fits state_checks step_checks step_on called_by step_call slip_differs tally_short back_checks back_call greatest kept pass passes sum_by run solve model_check_call tight_call run_reply same_times same_slip says_slip says_refused same_end is_fall same_state number_of_class holds all_hold right
stars_right = refl
