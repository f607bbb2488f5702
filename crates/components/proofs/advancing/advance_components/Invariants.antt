use Rattle.std.proofs.Common.{map}
use Rattle.components.specs.Components.{Ahead}
use Rattle.components.proofs.advancing.advance_components.Given as goal

-- the components before this one are advanced, each for itself
abbrev pub invariant-loop-component : goal.invariant-loop-component
invariant-loop-component g l = Ahead (map g.C.AsClause.clause l.clauses) l.floor l.paces l.times l.component l.passes l.ahead l.steps
