-- What a session at a board says, of the bytes that it reads.
use Rattle.std.specs.Prelude.{◌≡◌, cond, List, [], ◌∷◌, ◌++◌, ℕ, ◌-◌, ◌^◌, ◌<◌, eqb, length, take, Option}
use Rattle.std.specs.Io.KnownBytes.{Consumes, Appends, IsAtEnd}
use Rattle.maxatom.specs.Book.{Book}
use Rattle.derivation.specs.Refusals.{Reply, refused, answer}
use Rattle.derivation.specs.Step.{State, initial}
use Rattle.derivation.specs.declared.Counts.{Counts}
use Rattle.report.specs.Report.{refused_line}
use Rattle.session.specs.Turns.{Turn, line_turn}

-- a line that ends; an empty one is passed over
unfoldable pub ended : Book → State → List ℕ → Turn
ended b state [] = record { text = []; after = state }
ended b state (c ∷ line) = line_turn b state (c ∷ line)

-- Behind the bytes of a line's beginning: a line feed ends the line, and so does the end of the input. Of a line its first 256 bytes are
-- kept, which are more than any command has.
unfoldable pub transcript : Book → State → List ℕ → List ℕ → List ℕ
transcript b state line [] = (ended b state line).text
transcript b state line (byte ∷ bytes) =
    let turn = ended b state line in
    let next = turn.text ++ transcript b turn.after [] bytes in
    let more = transcript b state (take 256 (line ++ (byte ∷ []))) bytes in
    cond (eqb byte 10) next more

-- The bytes that a reader gave up are answered by what a writer took; they are all there were, up to 2^64 − 1.
pub record Served (b : Book) (state : State) (left_before left_after written_before written_after : Option (List ℕ)) : Type 0 where
  pub bytes : List ℕ
  pub read : Consumes left_before left_after bytes
  pub said : Appends written_before written_after (transcript b state [] bytes)
  pub all : length bytes < 2 ^ 64 - 1 → IsAtEnd left_after

-- What a session does on a file of which the reader says this, and whose book is b: it begins with a fresh board. A refused file is said in one
-- line, and nothing is read.
unfoldable pub Held : Reply Counts → Book → Option (List ℕ) → Option (List ℕ) → Option (List ℕ) → Option (List ℕ) → Type 0
Held (refused number place) b left_before left_after written_before written_after =
    Appends written_before written_after (refused_line number place) × (left_after ≡ left_before)
Held (answer counts) b left_before left_after written_before written_after = Served b (initial b) left_before left_after written_before written_after
