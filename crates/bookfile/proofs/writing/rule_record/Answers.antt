use mathlib.Core.Path.{ap, ◌∙◌}
use Prim.Native.Nat.{ℕ}
use mir.Facts.{to_z-of_z}
use mir.Syntax.{w32}
use mir.Val.{SFits}
use Rattle.std.proofs.Common.{rules}
use Rattle.std.specs.Int.{to_le_bytes}
use Rattle.bookfile.proofs.Plans.{rule_bytes}
use Rattle.bookfile.proofs.Words.{unsigned32_is}
use Rattle.bookfile.proofs.writing.rule_record.Goals as goal

pub returns : goal.returns
returns c =
    let k : SFits w32 c.args.r.k = search rules in
    rule_bytes c.args.r c.to_le_bytes.ensures c.to_le_bytes-2.ensures c.to_le_bytes-3.ensures
    (rw (to_z-of_z k) at c.to_le_bytes-4.ensures ∙ ap (λ (n : ℕ). to_le_bytes w32 n) (unsigned32_is c.args.r.k k))
