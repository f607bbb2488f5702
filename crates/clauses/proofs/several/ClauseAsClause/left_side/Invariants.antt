use Rattle.std.proofs.Common.{◌≡◌, take}
use Rattle.maxatom.specs.Rule.{time_at}
use Rattle.maxatom.specs.Clauses.{greatest}
use Rattle.clauses.proofs.several.ClauseAsClause.left_side.Given as goal

abbrev pub invariant-loop-i : goal.invariant-loop-i
invariant-loop-i l = l.left ≡ greatest (time_at l.times) l.self.first (take l.i l.self.others)
