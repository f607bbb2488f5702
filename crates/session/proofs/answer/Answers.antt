use Rattle.std.proofs.Common.{arith, refl, length}
use borrow.Author.Tests.{true-eqb, false-eqb}
use Rattle.std.proofs.KnownBytes.{Appends-nil, Appends-kept}
use Rattle.report.proofs.Texts.{written_take}
use Rattle.session.specs.Boards.{book_of, stands}
use Rattle.session.specs.Turns.{line_turn}
use Rattle.session.proofs.Sessions.{ended_none, ended_some, on_ok}
use Rattle.session.proofs.answer.Goals as goal

pub returns-then-is_empty-clause-left : goal.returns-then-is_empty-clause-left
returns-then-is_empty-clause-left g c =
    let board = c.args.board.now in
    rw (ended_none (book_of board) (stands board) c.args.line.now (true-eqb (length c.args.line.now) 0 c.if-is_empty.ensures))
    (record { state = refl; rules = refl; latest = refl })

pub returns-then-is_empty-clause-said : goal.returns-then-is_empty-clause-said
returns-then-is_empty-clause-said g c =
    let board = c.args.board.now in
    rw (ended_none (book_of board) (stands board) c.args.line.now (true-eqb (length c.args.line.now) 0 c.if-is_empty.ensures))
    (Appends-nil (g.W.Write.contents c.args.output.now))

pub returns-clause-left : goal.returns-clause-left
returns-clause-left g c =
    let board = c.args.board.now in
    on_ok c.flush.result
    (rw (ended_some (book_of board) (stands board) c.args.line.now (false-eqb (length c.args.line.now) 0 c.if-is_empty.ensures)) c.obey-end.ensures.left)

pub returns-clause-said : goal.returns-clause-said
returns-clause-said g c =
    let board = c.args.board.now in
    let text = (line_turn (book_of board) (stands board) c.args.line.now).text in
    let bound = c.obey-end.ensures.upper_bound in
    let size = c.told-text in
    let part = written_take c.obey-end.ensures.written (omega (arith, bound, size)) in
    on_ok c.flush.result
    (rw (ended_some (book_of board) (stands board) c.args.line.now (false-eqb (length c.args.line.now) 0 c.if-is_empty.ensures))
    (Appends-kept (g.W.Write.contents c.args.output.now) (g.W.Write.contents c.write_all.new.self) (g.W.Write.contents c.flush.new.self) text
    (rw part at c.in_ok-write_all.ensures.bytes) c.flush.ensures.bytes))
