use Rattle.std.proofs.Common.{arith, rules, ◌≡◌, ◌∙◌, [], refl, ap, take, slice_index_or}
use Rattle.std.proofs.KnownBytes.{Consumes-nil}
use Rattle.session.specs.Boards.{book_of, stands}
use Rattle.session.proofs.Sessions.{going_none, going_line, going_byte, going_all, kept_more, kept_full, one_byte, on_map, book_is}
use Rattle.session.proofs.serve.Goals as goal

pub loop-init : goal.loop-init
loop-init g c =
    let board = c.args.board.now in
    record {
      rules = refl;
      latest = refl;
      room = refl;
      inside = omega arith;
      going = going_none (book_of board) (stands board) (g.R.Read.remaining c.args.input.now) (g.W.Write.contents c.args.output.now);
    }

pub returns-then-branch-eq0 : goal.returns-then-branch-eq0
returns-then-branch-eq0 g c =
    let v = c.loop.invariant in
    let same = book_is c.loop.board c.args.board.now v.rules v.latest in
    let e = c.in_ok-read.ensures.bytes in
    let none : take c.in_ok-read.field-0 c.read.new.buf ≡ [] = ap (λ n. take n c.read.new.buf) c.if-branch-eq0.true in
    record {
      served = on_map c.answer.result (λ p. going_all v.going (rw none at e.0) (λ h. e.1 c.if-branch-eq0.true (search rules)) (rw same at p)) c.answer.ensures.said;
    }

pub loop-preserved-then-byte-eq10 : goal.loop-preserved-then-byte-eq10
loop-preserved-then-byte-eq10 g c =
    let v = c.loop.invariant in
    let same = book_is c.loop.board c.args.board.now v.rules v.latest in
    let left = c.in_ok-answer.ensures.left in
    let one = one_byte c.read.new.buf c.in_ok-read.field-0 (search rules) c.in_ok-read.ensures.bound.0 c.if-branch-eq0.false in
    let byte = rw (one, c.if-byte-eq10.true) at c.in_ok-read.ensures.bytes.0 in
    record {
      rules = left.rules ∙ v.rules;
      latest = left.latest ∙ v.latest;
      room = v.room;
      inside = omega arith;
      going = rw (left.state, same) (going_line v.going byte (rw same at c.in_ok-answer.ensures.said));
    }

pub loop-preserved-then-length-eq256 : goal.loop-preserved-then-length-eq256
loop-preserved-then-length-eq256 g c =
    let v = c.loop.invariant in
    let one = one_byte c.read.new.buf c.in_ok-read.field-0 (search rules) c.in_ok-read.ensures.bound.0 c.if-branch-eq0.false in
    let b = slice_index_or c.read.new.buf 0 0 in
    let more = going_byte v.going b c.if-byte-eq10.false (rw one at c.in_ok-read.ensures.bytes.0) in
    record {
      rules = v.rules;
      latest = v.latest;
      room = v.room;
      inside = v.inside;
      going = rw (kept_full c.loop.line c.loop.length b v.room c.if-length-eq256.true) at more;
    }

pub loop-preserved : goal.loop-preserved
loop-preserved g c =
    let v = c.loop.invariant in
    let one = one_byte c.read.new.buf c.in_ok-read.field-0 (search rules) c.in_ok-read.ensures.bound.0 c.if-branch-eq0.false in
    let b = slice_index_or c.read.new.buf 0 0 in
    let inside = v.inside in
    let apart = c.if-length-eq256.false in
    let more = going_byte v.going b c.if-byte-eq10.false (rw one at c.in_ok-read.ensures.bytes.0) in
    record {
      rules = v.rules;
      latest = v.latest;
      room = search rules;
      inside = omega (arith, inside, apart);
      going = rw (kept_more c.loop.line c.loop.length b v.room (omega (arith, inside, apart))) at more;
    }

pub returns : goal.returns
returns g c =
    let v = c.loop.invariant in
    let same = book_is c.loop.board c.args.board.now v.rules v.latest in
    let counted = v.going.counted in
    record {
      served = on_map c.answer-2.result
          (λ p. going_all v.going (Consumes-nil (g.R.Read.remaining c.loop.input)) (λ h. absurd (omega (arith, h, counted))) (rw same at p))
          c.answer-2.ensures.said;
    }
