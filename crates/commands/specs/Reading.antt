-- Reading a line, so that it can be computed. What it comes to is `Reads` in Commands.
use Rattle.std.specs.Prelude.{Bool, true, false, cond, not, List, [], ◌∷◌, ℕ, zero, suc, ◌+◌, ◌-◌, ◌*◌, eqb, ltb, take, drop, ℤ, pos, negsuc, Option, Some, None, option_map, bytes_eq}
use lib.Chars.{codes}
use Rattle.maxatom.specs.declared.Slip.{Slip}
use Rattle.commands.specs.declared.reading.Command.{Command}
use Rattle.commands.specs.declared.reading.Command.TheVariants.{Show, Step, Back, Kept, Tight, Rule, Run, Fresh, Plan}

-- the place of the first blank, or the end
unfoldable pub blank : List ℕ → ℕ
blank [] = 0
blank (b ∷ text) = let more = suc (blank text) in cond (eqb b 32) 0 more

-- what stands before the first blank, and what stands behind it
unfoldable pub first_word : List ℕ → List ℕ
first_word text = take (blank text) text

unfoldable pub behind : List ℕ → List ℕ
behind text = drop (suc (blank text)) text

-- the number whose decimal is that of `value` and then the text, where the text is of digits and the number at most `most`
unfoldable pub value_of : ℕ → ℕ → List ℕ → Option ℕ
value_of most value [] = Some value
value_of most value (b ∷ text) =
    let next = 10 * value + (b - 48) in
    let more = value_of most next text in
    cond (ltb b 48) None (cond (ltb 57 b) None (cond (ltb most next) None more))

-- no digit is missing, and none too many: a zero stands alone
unfoldable pub begins : List ℕ → Bool
begins [] = false
begins (b ∷ []) = true
begins (b ∷ c ∷ text) = not (eqb b 48)

unfoldable pub number : ℕ → List ℕ → Option ℕ
number most text = cond (begins text) (value_of most 0 text) None

-- a minus sign stands before no zero
unfoldable pub below_zero : Option ℕ → Option ℤ
below_zero None = None
below_zero (Some zero) = None
below_zero (Some (suc n)) = Some (negsuc n)

unfoldable pub time : List ℕ → Option ℤ
time [] = None
time (b ∷ text) =
    let below = below_zero (number 2147483648 text) in
    let above = option_map pos (number 2147483647 (b ∷ text)) in
    cond (eqb b 45) below above

unfoldable pub slip_of : Option ℕ → Option ℤ → Option ℤ → Option Slip
slip_of (Some job) (Some before) (Some after) = Some (record { job = job; before = before; after = after })
slip_of (Some job) (Some before) None = None
slip_of (Some job) None after = None
slip_of None before after = None

unfoldable pub slip : List ℕ → Option Slip
slip text =
    let times = behind text in
    slip_of (number 65535 (first_word text)) (time (first_word times)) (time (behind times))

-- the commands that have numbers
unfoldable pub numbered : List ℕ → List ℕ → Option Command
numbered word numbers =
    let rule = number 4294967295 numbers in
    cond (bytes_eq word (codes "STEP")) (option_map Step rule)
    (cond (bytes_eq word (codes "BACK")) (option_map Back (slip numbers))
    (cond (bytes_eq word (codes "TIGHT")) (option_map Tight rule)
    (cond (bytes_eq word (codes "RULE")) (option_map Rule rule) None)))

unfoldable pub command_of : List ℕ → Option Command
command_of line =
    cond (bytes_eq line (codes "SHOW")) (Some Show)
    (cond (bytes_eq line (codes "KEPT")) (Some Kept)
    (cond (bytes_eq line (codes "RUN")) (Some Run)
    (cond (bytes_eq line (codes "FRESH")) (Some Fresh)
    (cond (bytes_eq line (codes "PLAN")) (Some Plan) (numbered (first_word line) (behind line))))))
