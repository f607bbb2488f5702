-- What is lent to the planner.
use Rattle.std.specs.Prelude.{List, ℕ, ℤ, min, take}
use Rattle.maxatom.specs.declared.Rule.{Rule}

-- the rules that are lent of a table of 1,025
abbrev pub lent_of : ℕ → List Rule → List Rule
lent_of count table = take (min count 1025) table

-- the latest times that are lent of a list of 257
abbrev pub first_of : ℕ → List ℤ → List ℤ
first_of count latest = take (min count 257) latest
