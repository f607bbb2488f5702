-- Blocks of 16 clauses, a bit of a word each.
use Rattle.std.specs.Prelude.{List, ℕ, ◌<◌, ◌/◌, length, get_or, ℤ}
use Rattle.maxatom.specs.Rule.{time_at}
use Rattle.maxatom.specs.Clauses.{Clause, arms_of, Keeps}
use Rattle.maxatom.specs.Inner.{In}
use Rattle.maxatom.specs.declared.Arm.{Arm}
use Rattle.clauses.specs.Bits.{HasBlock}

-- the words of the jobs of a clause's arms have the bit of the clause's block, for each clause before a number; past the list's end any
-- clause stands for one
pub record ReadBefore (count : ℕ) (cs : List Clause) (readers : List ℕ) : Type 0 where
  pub has : (c : Clause) (i : ℕ) → i < count → (a : Arm) → In a (arms_of (get_or cs i c)) → HasBlock (get_or readers a.job 0) (i / 16)

-- each job's word has the bits of the blocks whose clauses read it
abbrev pub Reads : List Clause → List ℕ → Type 0
Reads cs readers = ReadBefore (length cs) cs readers

-- the clauses of blocks that are not dirty are kept
pub record Settled (cs : List Clause) (times : List ℤ) (dirty : ℕ) : Type 0 where
  pub kept : (c : Clause) (i : ℕ) → i < length cs → (HasBlock dirty (i / 16) → ⊥) → Keeps (time_at times) (get_or cs i c)
