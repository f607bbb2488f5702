use Rattle.std.proofs.Common.{◌<◌, length}
use Rattle.components.proofs.guessing.root.Given as goal

abbrev pub invariant-loop : goal.invariant-loop
invariant-loop l = l.first < length l.roots
