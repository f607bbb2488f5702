-- What a mark's word is, by its tests. Assumes nothing.
use mathlib.Core.Path.{◌≡◌, refl, sym, ap, ◌∙◌}
use mathlib.Core.Bool.{Bool, true, false, cond, not, ◌||◌}
use Prim.Native.Nat.{ℕ}
use borrow.Author.Tests.{eqb-true, ne_eqb}
use lib.Dec.{eqb}
use denote.Enum.Bare.{sameb}
use Rattle.std.specs.Prelude.{Result, Ok, Err}
use Rattle.std.specs.Result.{result_eq}
use Rattle.derivation.specs.declared.Fault.{Fault}
use Rattle.derivation.specs.declared.Fault.TheVariants.{UnknownMark}
use Rattle.maxatom.proofs.Choose.{clash}
use Rattle.bookfile.specs.Kinds.{BK, CE, RU, HR, rule_marks, marks, among}
use Rattle.bookfile.specs.Marks.{mark_of, mark_in, is_rule}
use Rattle.bookfile.specs.contracts.mark.Mark.{the_type}
use Rattle.bookfile.specs.contracts.mark.MarkPartialEq.TheImpl.{eq-value}
use Rattle.bookfile.specs.declared.mark.Form.{Form}
use Rattle.bookfile.specs.declared.mark.Form.TheVariants.{Sent, Stored}
use Rattle.bookfile.specs.declared.mark.Mark.{Mark}
use Rattle.bookfile.specs.declared.mark.Mark.TheVariants.{Book, Latest, Rule, Hours}

abbrev by : Bool → Bool → Bool → Bool → Result Mark Fault
by p q r s = cond p (Ok Book) (cond q (Ok Latest) (cond r (Ok Rule) (cond s (Ok Hours) (Err UnknownMark))))

-- the word of a mark
abbrev pub word_of : Mark → ℕ
word_of Book = BK.mark
word_of Latest = CE.mark
word_of Rule = RU.mark
word_of Hours = HR.mark

mark_word : (mark : Mark) → mark_of (word_of mark) ≡ Ok mark
unfolding mark_of
mark_word Book = refl
mark_word Latest = refl
mark_word Rule = refl
mark_word Hours = refl

module _ (word : ℕ) {mark : Mark} (e : mark_of word ≡ Ok mark) where
  word_is : word ≡ word_of mark
  unfolding mark_of
  word_is = go (eqb word BK.mark) refl (eqb word CE.mark) refl (eqb word RU.mark) refl (eqb word HR.mark) refl e
    where
      go : (p : Bool) → eqb word BK.mark ≡ p → (q : Bool) → eqb word CE.mark ≡ q → (r : Bool) → eqb word RU.mark ≡ r → (s : Bool) →
          eqb word HR.mark ≡ s →
          by p q r s ≡ Ok mark → word ≡ word_of mark
      go true a q b r c s d e = let m : Book ≡ mark = cc in eqb-true word BK.mark a ∙ ap word_of m
      go false a true b r c s d e = let m : Latest ≡ mark = cc in eqb-true word CE.mark b ∙ ap word_of m
      go false a false b true c s d e = let m : Rule ≡ mark = cc in eqb-true word RU.mark c ∙ ap word_of m
      go false a false b false c true d e = let m : Hours ≡ mark = cc in eqb-true word HR.mark d ∙ ap word_of m
      go false a false b false c false d e = absurd (cc)

-- a word that says no mark is among no form's marks
no_mark : (form : Form) (word : ℕ) {fault : Fault} → mark_of word ≡ Err fault → (fault ≡ UnknownMark) × (among word (marks form) ≡ false)
unfolding mark_of among
no_mark form word {fault} e =
    let f = go (eqb word BK.mark) (eqb word CE.mark) (eqb word RU.mark) (eqb word HR.mark) e in (f.0, of_form form (f.1, f.2))
  where
    go : (p q r s : Bool) → by p q r s ≡ Err fault →
        (fault ≡ UnknownMark) × ((p || (q || (r || false))) ≡ false) × ((p || (q || (s || (r || false)))) ≡ false)
    go true q r s e = absurd (cc)
    go false true r s e = absurd (cc)
    go false false true s e = absurd (cc)
    go false false false true e = absurd (cc)
    go false false false false e = (cc, refl, refl)

    of_form : (f : Form) → (among word (marks Sent) ≡ false) × (among word (marks Stored) ≡ false) → among word (marks f) ≡ false
    of_form Sent h = h.0
    of_form Stored h = h.1

-- what the code says of a word: the marks of hours are unknown in a sent file, and every other word says its mark, if it has one
pub hours_unknown : {word : ℕ} → word ≡ HR.mark → Err UnknownMark ≡ mark_in Sent word
unfolding mark_in among
hours_unknown e = rw e refl

pub said_in : (form : Form) {word : ℕ} → (form ≡ Sent → word ≡ HR.mark → ⊥) → mark_of word ≡ mark_in form word
unfolding mark_of mark_in among
said_in form {word} h = go form h
  where
    stored : (p q r s : Bool) → by p q r s ≡ cond (p || (q || (s || (r || false)))) (by p q r s) (Err UnknownMark)
    stored true q r s = refl
    stored false true r s = refl
    stored false false true true = refl
    stored false false true false = refl
    stored false false false true = refl
    stored false false false false = refl

    sent : (p q r s : Bool) → s ≡ false → by p q r s ≡ cond (p || (q || (r || false))) (by p q r s) (Err UnknownMark)
    sent true q r s e = refl
    sent false true r s e = refl
    sent false false true s e = refl
    sent false false false true e = clash refl e
    sent false false false false e = refl

    go : (f : Form) → (f ≡ Sent → word ≡ HR.mark → ⊥) → mark_of word ≡ mark_in f word
    go Stored h = stored (eqb word BK.mark) (eqb word CE.mark) (eqb word RU.mark) (eqb word HR.mark)
    go Sent h = sent (eqb word BK.mark) (eqb word CE.mark) (eqb word RU.mark) (eqb word HR.mark) (ne_eqb word HR.mark (h refl))

-- the mark of a word in a file of a form
module _ (form : Form) (word : ℕ) where
  pub unknown : {fault : Fault} → mark_in form word ≡ Err fault → (fault ≡ UnknownMark) × (not (among word (marks form)) ≡ true)
  unfolding mark_in
  unknown {fault} e = go (among word (marks form)) refl e
    where
      go : (t : Bool) → among word (marks form) ≡ t → cond t (mark_of word) (Err UnknownMark) ≡ Err fault →
          (fault ≡ UnknownMark) × (not (among word (marks form)) ≡ true)
      go true a q = clash a (no_mark form word q).1
      go false a q = (cc, rw a refl)

  module _ {mark : Mark} (e : mark_in form word ≡ Ok mark) where
    is_known : (among word (marks form) ≡ true) × (mark_of word ≡ Ok mark)
    unfolding mark_in
    is_known = go (among word (marks form)) refl e
      where
        go : (t : Bool) → among word (marks form) ≡ t → cond t (mark_of word) (Err UnknownMark) ≡ Ok mark →
            (among word (marks form) ≡ true) × (mark_of word ≡ Ok mark)
        go true a q = (a, q)
        go false a q = absurd (cc)

    here : word ≡ word_of mark
    here = word_is word is_known.1

    -- a mark is known, and is that of a rule, or of a book's first record, as the tests on its word say
    pub known : not (among word (marks form)) ≡ false
    known = rw is_known.0 refl

    pub of_rule : among word (rule_marks form) ≡ is_rule mark
    unfolding among
    of_rule = ap (λ (w : ℕ). among w (rule_marks form)) here ∙ go form mark (sym (ap (λ (w : ℕ). among w (marks form)) here) ∙ is_known.0)
      where
        go : (f : Form) (m : Mark) → among (word_of m) (marks f) ≡ true → among (word_of m) (rule_marks f) ≡ is_rule m
        go Sent Book h = refl
        go Stored Book h = refl
        go Sent Latest h = refl
        go Stored Latest h = refl
        go Sent Rule h = refl
        go Stored Rule h = refl
        go Sent Hours h = clash h refl
        go Stored Hours h = refl

    pub of_book : eqb word BK.mark ≡ sameb the_type mark Book
    of_book = ap (λ (w : ℕ). eqb w BK.mark) here ∙ go mark
      where
        go : (m : Mark) → eqb (word_of m) BK.mark ≡ sameb the_type m Book
        go Book = refl
        go Latest = refl
        go Rule = refl
        go Hours = refl

-- what is said of a word that was read
pub said_of : (form : Form) {said reply : Result Mark Fault} {first word : ℕ} → said ≡ mark_in form first → first ≡ word → said ≡ reply →
    mark_in form word ≡ reply
said_of form e f s = rw (← f) (sym e ∙ s)

-- two marks are the same as their words are
same_words : (k m : Mark) → eq-value.it k m ≡ eqb (word_of k) (word_of m)
same_words Book Book = refl
same_words Book Latest = refl
same_words Book Rule = refl
same_words Book Hours = refl
same_words Latest Book = refl
same_words Latest Latest = refl
same_words Latest Rule = refl
same_words Latest Hours = refl
same_words Rule Book = refl
same_words Rule Latest = refl
same_words Rule Rule = refl
same_words Rule Hours = refl
same_words Hours Book = refl
same_words Hours Latest = refl
same_words Hours Rule = refl
same_words Hours Hours = refl

-- a test of what a word says tests the word
pub mark_test : (alike : Fault → Fault → Bool) (word : ℕ) (mark : Mark) →
    result_eq eq-value.it alike (mark_of word) (Ok mark) ≡ eqb word (word_of mark)
mark_test alike word mark = go (mark_of word) refl
  where
    go : (said : Result Mark Fault) → mark_of word ≡ said → result_eq eq-value.it alike said (Ok mark) ≡ eqb word (word_of mark)
    go (Ok k) e = same_words k mark ∙ rw (word_is word e)
    go (Err fault) e =
        sym
        (ne_eqb word (word_of mark)
        (λ q. let f : ◌≡◌ {A = Result Mark Fault} (Ok mark) (Err fault) = sym (mark_word mark) ∙ sym (ap mark_of q) ∙ e in absurd (cc)))

pub ruleset in_form = (hours_unknown, said_in)
