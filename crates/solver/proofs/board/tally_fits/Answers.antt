use borrow.Author.Tests.{ne_eqb}
use Rattle.std.proofs.Common.{◌∙◌}
use Rattle.solver.proofs.Boards.{fits_yes, fits_no}
use Rattle.solver.proofs.board.tally_fits.Goals as goal

pub returns-then-tally-minutes_lowered : goal.returns-then-tally-minutes_lowered
returns-then-tally-minutes_lowered c = fits_yes _ _ _ c.minutes_lowered.ensures c.if-tally-minutes_lowered.true

pub returns-else-tally-minutes_lowered : goal.returns-else-tally-minutes_lowered
returns-else-tally-minutes_lowered c = ne_eqb _ _ c.if-tally-minutes_lowered.false ∙ fits_no _ _ _ c.minutes_lowered.ensures c.if-tally-minutes_lowered.false
