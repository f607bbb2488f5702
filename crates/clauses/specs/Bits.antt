-- Dirty bits: a word has one for each block of 16 clauses.
use Rattle.std.specs.Prelude.{◌≡◌, ℕ, ◌/◌, ◌%◌, ◌^◌}

-- a block's bit is set
pub record HasBlock (word block : ℕ) : Type 0 where
  pub set : word / 2 ^ block % 2 ≡ 1
