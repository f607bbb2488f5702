-- The four classes of rule.
use Rattle.std.specs.Prelude.{◌≡◌, Bool, true, false, cond, not, ◌&&◌, ◌||◌, List, ℕ, ◌+◌, eqb, ℤ, pos}
use Rattle.std.specs.Bool.{xor}
use Rattle.std.specs.Int.Signed.{lt_z}
use Rattle.maxatom.specs.Rule.{satisfied}
use Rattle.maxatom.specs.declared.Rule.{Rule}
use Rattle.maxatom.specs.declared.Class.{Class}
use Rattle.maxatom.specs.declared.Class.TheVariants.{Tautology, Contradiction, Difference, Disjunctive}

abbrev pub negative : Rule → Bool
negative r = lt_z r.k (pos 0)

-- idle: k is zero or more, and z is x or y
unfoldable pub tautology : Rule → Bool
tautology r = not (negative r) && (eqb r.z r.x || eqb r.z r.y)

-- impossible: k is negative, and x, y, z are one job
unfoldable pub contradiction : Rule → Bool
contradiction r = negative r && (eqb r.z r.x && eqb r.z r.y)

-- a rule that is not impossible
abbrev pub Possible : Rule → Type 0
Possible r = contradiction r ≡ false

-- one-armed: k is negative and z is just one of x and y, or x = y and z differs
unfoldable pub difference : Rule → Bool
difference r =
    negative r && xor (eqb r.z r.x) (eqb r.z r.y)
    || (not (eqb r.z r.x) && eqb r.x r.y)

-- two-armed: all else
unfoldable pub disjunctive : Rule → Bool
disjunctive r = not (tautology r) && (not (contradiction r) && not (difference r))

unfoldable pub class_of : Rule → Class
class_of r = cond (tautology r) Tautology (cond (contradiction r) Contradiction (cond (difference r) Difference Disjunctive))

-- the number of a class: idle 0, impossible 1, one-armed 2, two-armed 3
unfoldable pub number_of_class : Class → ℕ
number_of_class Tautology = 0
number_of_class Contradiction = 1
number_of_class Difference = 2
number_of_class Disjunctive = 3

-- a one-armed rule acts as this job twice
unfoldable pub acting_twice : Rule → Rule
acting_twice r =
    let job = cond (eqb r.z r.x) r.y r.x in
    record { x = job; y = job; z = r.z; k = r.k }

abbrev pub bit_of : Bool → ℕ
bit_of false = 0
bit_of true = 1

-- what the classes mean
pub record ClassMeaning (r : Rule) : Type 0 where
  pub exactly_one : bit_of (tautology r) + bit_of (contradiction r) + bit_of (difference r) + bit_of (disjunctive r) ≡ 1
  pub said_tautology : tautology r ≡ true → class_of r ≡ Tautology
  pub said_contradiction : contradiction r ≡ true → class_of r ≡ Contradiction
  pub said_difference : difference r ≡ true → class_of r ≡ Difference
  pub said_disjunctive : disjunctive r ≡ true → class_of r ≡ Disjunctive
  pub by_every : tautology r ≡ true → (times : List ℤ) → satisfied r times ≡ true
  pub by_none : contradiction r ≡ true → (times : List ℤ) → satisfied r times ≡ false
  pub by_acting : difference r ≡ true → (times : List ℤ) → satisfied r times ≡ satisfied (acting_twice r) times

-- the class in the order of section 3 of the paper: impossible, then idle, then one-armed, whose test is by then only that x is y, or that
-- z is x or y; the rest is two-armed
unfoldable pub class_in_order : Rule → Class
class_in_order r =
    cond (contradiction r) Contradiction
    (cond (tautology r) Tautology
    (cond (eqb r.x r.y || (eqb r.z r.x || eqb r.z r.y)) Difference Disjunctive))

-- that order gives the rule its class
abbrev pub SameInOrder : Rule → Type 0
SameInOrder r = class_in_order r ≡ class_of r
