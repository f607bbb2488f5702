-- What was read so far is answered, but for the line at hand, whose first bytes are kept.
use Rattle.std.proofs.Common.{◌≡◌, ◌≤◌, length, take}
use Rattle.session.specs.Boards.{book_of, stands}
use Rattle.session.proofs.Sessions.{Going}
use Rattle.session.proofs.serve.Given as goal

abbrev pub invariant-loop : goal.invariant-loop
invariant-loop g l =
    record {
      rules : l.board.rules.now ≡ l.initial.board.rules.now;
      latest : l.board.latest.now ≡ l.initial.board.latest.now;
      room : length l.line ≡ 256;
      inside : l.length ≤ 256;
      going : Going (book_of l.initial.board) (stands l.initial.board) (g.R.Read.remaining l.initial.input) (g.R.Read.remaining l.input)
          (g.W.Write.contents l.initial.output) (g.W.Write.contents l.output) (stands l.board) (take l.length l.line) l.counter;
    }
