-- Clauses of 1 to 8 arms in an array.
use Rattle.std.specs.Prelude.{List, [], ◌∷◌, ℕ, leb, cond, length, take, Option, Some, None}
use Rattle.maxatom.specs.declared.Arm.{Arm}
use Rattle.maxatom.specs.Clauses.{Clause as Meaning}
use Rattle.clauses.specs.declared.several.Clause.{Clause}

abbrev pub meaning : Clause → Meaning
meaning c = record { first = c.first; others = take c.count c.others; target = c.target }

-- the clause of a list of arms: none where there are no arms, or more than 8
unfoldable pub with_arms : ℕ → List Arm → Option Meaning
with_arms target [] = None
with_arms target (a ∷ l) = let c : Meaning = record { first = a; others = l; target = target } in cond (leb (length l) 7) (Some c) None
