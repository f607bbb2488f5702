use Rattle.std.proofs.Common.{◌≡◌, take}
use Rattle.std.specs.List.{list_any}
use Rattle.derivation.specs.Refusals.{latest_outside}
use Rattle.table.proofs.any_outside.Given as goal

abbrev pub invariant-loop-t : goal.invariant-loop-t
invariant-loop-t l = l.outside ≡ list_any latest_outside (take l.t-index l.latest)
