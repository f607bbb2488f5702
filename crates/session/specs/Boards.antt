-- The book and the state of a board.
use Rattle.std.specs.Prelude.{◌≡◌, length}
use Rattle.maxatom.specs.Book.{Book, book}
use Rattle.derivation.specs.Step.{State}
use Rattle.derivation.specs.Replies.{state_of}
use Rattle.session.specs.declared.board.Board.{Board}
use Rattle.session.specs.Turns.{Turn}

abbrev pub book_of : Board → Book
book_of board = book (length board.latest.now) board.latest.now board.rules.now

abbrev pub stands : Board → State
stands board = state_of board.times.now board.tally

-- a board after a turn: its state is the turn's, and its book is as it was
pub record Left (before : Board) (turn : Turn) (after : Board) : Type 0 where
  pub state : stands after ≡ turn.after
  pub rules : after.rules.now ≡ before.rules.now
  pub latest : after.latest.now ≡ before.latest.now
