-- What a line asks for: a command's text is its word and its numbers, each behind one blank, and a line is a command's text or no command.
use Rattle.std.specs.Prelude.{◌≡◌, List, ◌++◌, ℕ, ◌≤◌, ⊤, Option, Some}
use Rattle.std.specs.Int.{w32}
use Rattle.std.proofs.Common.{SFits}
use lib.Chars.{codes}
use Rattle.maxatom.specs.declared.Slip.{Slip}
use Rattle.report.specs.Text.{field, signed_field}
use Rattle.commands.specs.declared.reading.Command.{Command}
use Rattle.commands.specs.declared.reading.Command.TheVariants.{Show, Step, Back, Kept, Tight, Rule, Run, Fresh, Plan}

-- a slip's job and its two times
unfoldable pub slip_fields : Slip → List ℕ
slip_fields slip = field slip.job ++ (signed_field slip.before ++ signed_field slip.after)

unfoldable pub command_text : Command → List ℕ
command_text Show = codes "SHOW"
command_text (Step r) = codes "STEP" ++ field r
command_text (Back slip) = codes "BACK" ++ slip_fields slip
command_text Kept = codes "KEPT"
command_text (Tight r) = codes "TIGHT" ++ field r
command_text (Rule r) = codes "RULE" ++ field r
command_text Run = codes "RUN"
command_text Fresh = codes "FRESH"
command_text Plan = codes "PLAN"

-- the numbers of a slip are of its types: 16 bits unsigned, and 32 bits with sign
pub record SlipFits (slip : Slip) : Type 0 where
  pub job : slip.job ≤ 65535
  pub before : SFits w32 slip.before
  pub after : SFits w32 slip.after

-- and those of a command: a rule's number has 32 bits unsigned
abbrev pub Fits : Command → Type 0
Fits (Step r) = r ≤ 4294967295
Fits (Back slip) = SlipFits slip
Fits (Tight r) = r ≤ 4294967295
Fits (Rule r) = r ≤ 4294967295
Fits Show = ⊤
Fits Kept = ⊤
Fits Run = ⊤
Fits Fresh = ⊤
Fits Plan = ⊤

-- A line is read as the command whose text it is, and as none if it is no command's.
pub record Reads (line : List ℕ) (answer : Option Command) : Type 0 where
  pub text : (c : Command) → answer ≡ Some c → (line ≡ command_text c) × Fits c
  pub every : (c : Command) → Fits c → line ≡ command_text c → answer ≡ Some c

-- two commands have different texts
abbrev pub TextsDiffer : Type 0
TextsDiffer = (c d : Command) → Fits c → Fits d → command_text c ≡ command_text d → c ≡ d
