use native.Mathlib.Omega.{arith}
use mathlib.Core.Bool.{false}
use mathlib.Core.Path.{◌≡◌, sym, ap, ◌∙◌}
use borrow.Author.Tests.{eqb-true}
use lib.Dec.{eqb}
use mir.Facts.{to_z-of_z}
use mir.Syntax.{w16, w32}
use mir.Val.{SFits, to_z}
use Rattle.std.proofs.Common.{rules}
use Rattle.bookfile.specs.Numbers.{word}
use Rattle.bookfile.specs.Kinds.{HR, rule_with, decoded_rule}
use Rattle.bookfile.proofs.Records.{in_minutes, size_minutes, rule_hours, rule_minutes, rule_fields}
use Rattle.bookfile.proofs.Words.{signed16_is, sixty_fits}
use Rattle.bookfile.proofs.reading.decoded_rule.Goals as goal
use Rattle.bookfile.proofs.reading.decoded_rule.Goals.{then-is_in_hours, else-is_in_hours}

pub signed32-k-requires : goal.signed32-k-requires
signed32-k-requires c =
    let m : eqb (word c.args.file.now c.args.at) HR.mark ≡ false = sym c.is_in_hours.ensures ∙ c.if-is_in_hours.false in
    omega (arith, size_minutes c.args.file.now c.args.at (in_minutes c.args.file.now c.args.at m))

pub returns : goal.returns
returns c =
    let said : rule_with c.args.file.now c.args.at (to_z w32 c.if-is_in_hours.k-bits) ≡ decoded_rule c.args.file.now c.args.at =
    elim c.if-is_in_hours.branch [
      | then-is_in_hours w ↦
          let h = eqb-true (word c.args.file.now c.args.at) HR.mark (sym c.is_in_hours.ensures ∙ w.if-is_in_hours.true) in
          let f : SFits w16 w.cast_signed.result = search rules in
          let e : w.from.result ≡ w.cast_signed.result = rw (to_z-of_z f) at w.from.ensures in
          let g : SFits w32 w.from.result = search rules in
          ap (rule_with c.args.file.now c.args.at)
          (w.k-is ∙ rw (to_z-of_z g, e, to_z-of_z (sixty_fits f), w.cast_signed.ensures, signed16_is w.word.result (omega arith), w.word.ensures))
          ∙ rule_hours c.args.file.now c.args.at h
      | else-is_in_hours w ↦
          let m : eqb (word c.args.file.now c.args.at) HR.mark ≡ false = sym c.is_in_hours.ensures ∙ w.if-is_in_hours.false in
          let f : SFits w32 w.signed32-k.result = search rules in
          ap (rule_with c.args.file.now c.args.at) (w.k-is ∙ rw (to_z-of_z f, w.signed32-k.ensures))
          ∙ rule_minutes c.args.file.now c.args.at (in_minutes c.args.file.now c.args.at m)
    ] in
    rule_fields c.args.file.now c.args.at c.word-2.ensures c.word-3.ensures c.word-4.ensures said
