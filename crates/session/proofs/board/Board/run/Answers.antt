use Rattle.std.proofs.Common.{length, pos}
use Rattle.report.proofs.Reports.{take_zeros}
use Rattle.session.specs.Boards.{book_of, stands}
use Rattle.session.proofs.Turns.{ran, ran_not}
use Rattle.session.proofs.board.Board.run.Goals as goal

pub returns-in-Ok : goal.returns-in-Ok
returns-in-Ok c =
    let board = c.args.self.now in
    ran (book_of board) (stands board) (take_zeros (pos 0) (length board.latest.now) 256 c.requires) c.in-Ok.solved c.in-Ok.ensures.said

pub returns-in-Err : goal.returns-in-Err
returns-in-Err c =
    let board = c.args.self.now in
    ran_not (book_of board) (stands board) (take_zeros (pos 0) (length board.latest.now) 256 c.requires) c.in-Err.refusal c.in-Err.ensures.said
