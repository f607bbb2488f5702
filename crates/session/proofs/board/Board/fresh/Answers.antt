use Rattle.std.proofs.Common.{refl}
use Rattle.session.specs.Turns.{turn}
use Rattle.session.specs.Boards.{book_of, stands}
use Rattle.session.proofs.Turns.{fresh_is}
use Rattle.session.proofs.board.Board.fresh.Goals as goal

pub returns-in-Ok-clause-left : goal.returns-in-Ok-clause-left
unfolding turn
returns-in-Ok-clause-left c =
    let board = c.args.self.now in
    let e = c.begin.ensures in
    record { state = fresh_is (book_of board) (stands board) e.times_after e.tally_after; rules = refl; latest = refl }

pub returns-in-Err-clause-left : goal.returns-in-Err-clause-left
unfolding turn
returns-in-Err-clause-left c =
    let board = c.args.self.now in
    let e = c.begin.ensures in
    record { state = fresh_is (book_of board) (stands board) e.times_after e.tally_after; rules = refl; latest = refl }
