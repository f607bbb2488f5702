-- What a record's first two bytes say, to the code that matches on it.
use Rattle.std.specs.Prelude.{Bool, true, false, cond, ℕ, eqb, Result, Ok, Err}
use Rattle.derivation.specs.declared.Fault.{Fault}
use Rattle.derivation.specs.declared.Fault.TheVariants.{UnknownMark}
use Rattle.bookfile.specs.Kinds.{BK, CE, RU, HR, marks, among}
use Rattle.bookfile.specs.declared.mark.Form.{Form}
use Rattle.bookfile.specs.declared.mark.Mark.{Mark}
use Rattle.bookfile.specs.declared.mark.Mark.TheVariants.{Book, Latest, Rule, Hours}

-- the mark that is this word of 16 bits
unfoldable pub mark_of : ℕ → Result Mark Fault
mark_of word =
    cond (eqb word BK.mark) (Ok Book)
    (cond (eqb word CE.mark) (Ok Latest)
    (cond (eqb word RU.mark) (Ok Rule)
    (cond (eqb word HR.mark) (Ok Hours) (Err UnknownMark))))

-- the mark that is this word in a file of a form, which knows some of the marks
unfoldable pub mark_in : Form → ℕ → Result Mark Fault
mark_in form word = cond (among word (marks form)) (mark_of word) (Err UnknownMark)

-- the marks of rules
abbrev pub is_rule : Mark → Bool
is_rule Book = false
is_rule Latest = false
is_rule Rule = true
is_rule Hours = true
