use Rattle.std.proofs.Common.{refl}
use Rattle.restriction.specs.Restriction.{left}
use Rattle.restriction.proofs.lines.allows.Goals as goal

pub returns-in-Some : goal.returns-in-Some
returns-in-Some g c e = left (c.if-not-in_components.ensures refl) _ c.in-Some.ensures (c.others_covered.ensures e)
