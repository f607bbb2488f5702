use mathlib.Core.Path.{◌∙◌}
use Rattle.bookfile.specs.declared.mark.Mark.TheVariants.{Hours}
use Rattle.derivation.specs.contracts.FaultPartialEq.TheImpl.{eq-value as fault_eq}
use Rattle.bookfile.proofs.Marks.{mark_test}
use Rattle.bookfile.proofs.reading.is_in_hours.Goals as goal

pub returns : goal.returns
returns c = c.eq.ensures ∙ rw (c.try_from.ensures, c.word.ensures) (mark_test fault_eq.it _ Hours)
