use Rattle.restriction.proofs.lines.has_keeper.Given as goal

abbrev pub invariant-loop-i : goal.invariant-loop-i
invariant-loop-i g l = Unit {0}
