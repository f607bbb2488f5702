-- The checks of a table with its times, whose answer is K, and what a call says after them; and the checks of a board and a tally lent with
-- it, whose answer is the floor.
use Rattle.std.specs.Prelude.{List, ℕ, ℤ, Result, Ok, Err}
use Rattle.maxatom.specs.Book.{Book, total, floor}
use Rattle.derivation.specs.Refusals.{Reply, refused, Check, reply, times_checks}
use Rattle.derivation.specs.Faults.{number_of}
use Rattle.derivation.specs.Replies.{reply_of}
use Rattle.derivation.specs.Step.{State, state_checks}
use Rattle.derivation.specs.declared.Refusal.{Refusal}

abbrev pub sum_reply : Result ℕ Refusal → Reply ℕ
sum_reply r = reply_of (λ k. k) r

-- what the checks of a table with its times say, with K for an answer
abbrev pub checks_reply : Book → List ℤ → Reply ℕ
checks_reply b times = reply (times_checks b times) (total b.rules)

-- what a call says where the checks of its table said r: their refusal, or what the checks behind them say
abbrev pub then_reply : {A : Type 0} → Result ℕ Refusal → List Check → A → Reply A
then_reply (Err q) more a = refused (number_of q.fault) q.place
then_reply (Ok k) more a = reply more a

abbrev pub floor_reply : Result ℤ Refusal → Reply ℤ
floor_reply r = reply_of (λ f. f) r

-- what the checks of a board and a tally say, with the floor for an answer
abbrev pub state_reply : Book → State → Reply ℤ
state_reply b state = reply (state_checks b state) (floor b)
