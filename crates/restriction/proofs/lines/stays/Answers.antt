use Rattle.std.proofs.Common.{rules}
use Rattle.restriction.proofs.lines.stays.Goals as goal

pub returns-then-turns-period : goal.returns-then-turns-period
returns-then-turns-period c e = rw (← c.from-period.ensures, ← c.from-fall.ensures, ← c.from-other_period.ensures, ← c.from-other_fall.ensures) (search rules)
