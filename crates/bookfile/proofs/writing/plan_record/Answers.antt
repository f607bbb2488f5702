use mathlib.Core.Path.{ap, ◌∙◌}
use Prim.Native.Nat.{ℕ}
use mir.Facts.{to_z-of_z}
use mir.Syntax.{w32}
use Rattle.std.specs.Int.{to_le_bytes}
use Rattle.bookfile.proofs.Plans.{record_bytes}
use Rattle.bookfile.proofs.Words.{unsigned32_is}
use Rattle.bookfile.proofs.writing.plan_record.Goals as goal

pub returns : goal.returns
returns c =
    record_bytes c.args.job c.args.time c.to_le_bytes.ensures
    (rw (to_z-of_z c.ranges.time) at c.to_le_bytes-2.ensures ∙ ap (λ (n : ℕ). to_le_bytes w32 n) (unsigned32_is c.args.time c.ranges.time))
