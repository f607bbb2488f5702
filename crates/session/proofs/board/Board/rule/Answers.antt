use Rattle.std.proofs.Common.{length}
use borrow.Author.Tests.{true-ltb, false-ltb}
use Rattle.session.specs.Boards.{book_of, stands}
use Rattle.session.proofs.Turns.{rule_found, rule_none}
use Rattle.session.proofs.board.Board.rule.Goals as goal

pub returns-in-Some : goal.returns-in-Some
returns-in-Some c =
    let board = c.args.self.now in
    let l = c.in-Some.ensures.lookup in
    rw c.from.ensures (rule_found (book_of board) (stands board) c.args.number c.in-Some.rule.now (true-ltb c.args.number (length board.rules.now) l.0) l.1)

pub returns-in-None : goal.returns-in-None
returns-in-None c =
    let board = c.args.self.now in
    let l = c.in-None.ensures.lookup in
    rule_none (book_of board) (stands board) c.args.number c.into.result (false-ltb c.args.number (length board.rules.now) l.0) c.into.ensures
