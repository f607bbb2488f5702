use mir.Facts.{to_z-of_z}
use mir.Syntax.{w32}
use mir.Val.{SFits}
use Rattle.std.proofs.Common.{rules}
use Rattle.bookfile.specs.Kinds.{decoded_latest}
use Rattle.bookfile.proofs.reading.decoded_latest.Goals as goal

pub returns : goal.returns
unfolding decoded_latest
returns c =
    let f : SFits w32 c.signed32.result = search rules in
    rw (to_z-of_z f, c.word.ensures, c.signed32.ensures)
