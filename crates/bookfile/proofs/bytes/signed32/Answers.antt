use mir.Facts.{to_z-of_z}
use mir.Syntax.{w32}
use mir.Val.{SFits}
use Rattle.std.proofs.Common.{rules}
use Rattle.bookfile.specs.Numbers.{long}
use Rattle.bookfile.proofs.Words.{signed32_is, long_is, long_small}
use Rattle.bookfile.proofs.bytes.signed32.Goals as goal

pub returns : goal.returns
returns c =
    let f : SFits w32 c.from_le_bytes.result = search rules in
    rw (to_z-of_z f, c.from_le_bytes.ensures, long_is c.args.bytes.now c.args.at)
    (signed32_is (long c.args.bytes.now c.args.at) (long_small c.args.bytes.now c.args.at (λ i. (c.type_inv.bytes i).fits)))
