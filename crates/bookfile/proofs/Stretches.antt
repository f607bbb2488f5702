-- A rule's record has the bytes from which the reader took the rule. Assumes nothing.
use mathlib.Core.Path.{◌≡◌, refl, sym, ap, subst, ◌∙◌}
use mathlib.Core.Bool.{cond}
use mathlib.Core.List.{List, []}
use Prim.Native.Nat.{ℕ, zero, suc, ◌+◌, ◌<◌, ◌≤◌}
use native.Mathlib.Decide.{dec_lt, ℕ_discrete}
use native.Mathlib.Nat.{min-eq_left}
use native.Mathlib.Numerals.{add-one}
use native.Mathlib.Omega.{arith}
use lib.Dec.{eqb}
use lib.ListN.{length, drop, get_or, length-take, length-drop}
use lib.Seq.{get_or-take, get_or-drop}
use lib.IntN.{ℤ, pos, ◌*ℤ◌}
use Rattle.derivation.specs.Refusals.{Reply, refused, answer, verdict}
use Rattle.bookfile.specs.declared.mark.Form.{Form}
use Rattle.bookfile.specs.declared.mark.Form.TheVariants.{Sent}
use Rattle.bookfile.specs.declared.reading.LatestTime.{LatestTime}
use Rattle.bookfile.specs.Numbers.{word, long, signed16, signed32}
use Rattle.bookfile.specs.Kinds.{kind_among, RU, HR, rule_with, kind_at, size_at, decoded_rule}
use Rattle.bookfile.specs.Reading.{head_checks, entry, Placed, after, read, reading, latest_records, rules_begin, rules_of, book_reply, entries, bytes_at, record_of}
use Rattle.bookfile.specs.Inner.{Listed}
use Rattle.bookfile.specs.Theorems.{TakenFrom, RecordFacts}
use Rattle.bookfile.proofs.Records.{size_bounds, size_hours, size_minutes, rule_hours, rule_minutes}
use Rattle.bookfile.proofs.Walks.{Walked, walked_none, walked_next, walked_begins, record_none, record_here}

-- a file with rules is not refused
listed_some : (head : Reply (Unit {0})) (times : Reply (List LatestTime)) (rules : Reply (List Placed)) →
    1 ≤ length (read (after head (after times rules))) →
    (head ≡ answer tt) × (times ≡ answer (read times)) × (rules ≡ answer (read (after head (after times rules))))
unfolding after read
listed_some (refused number place) times rules h = absurd (omega arith)
listed_some (answer tt) (refused number place) rules h = absurd (omega arith)
listed_some (answer tt) (answer found) (refused number place) h = absurd (omega arith)
listed_some (answer tt) (answer found) (answer es) h = (refl, refl, refl)

pub listed_by : (form : Form) (file : List ℕ) → 1 ≤ length (entries form file) → Listed form file
unfolding book_reply reading
listed_by form file h =
    let p = listed_some (verdict (head_checks form file)) (latest_records file) (rules_of form file) h in record { head = p.0; times = p.1; all = p.2 }

-- where the walk stands after i rules
pub record Stands (form : Form) (file : List ℕ) (i : ℕ) : Type 0 where
  pub byte : ℕ
  pub walked : Walked form file byte i

pub stands : (form : Form) (file : List ℕ) → Listed form file → (i : ℕ) → i ≤ length (entries form file) → Stands form file i
stands form file l zero h = record { byte = rules_begin file; walked = walked_none form file l }
stands form file l (suc i) h =
    let s = stands form file l i (omega arith) in
    record {
      byte = s.byte + size_at file s.byte;
      walked = subst (λ (n : ℕ). Walked form file (s.byte + size_at file s.byte) n) (add-one i) (walked_next s.walked (omega arith));
    }

module _ (file : List ℕ) (at : ℕ) (h : at + size_at file at ≤ length file) where
  abbrev bytes : List ℕ
  bytes = bytes_at file at

  pub bytes_length : length bytes ≡ size_at file at
  bytes_length = length-take (size_at file at) (drop at file) ∙ min-eq_left (omega (arith, length-drop at file))

  byte_here : (i : ℕ) → i < size_at file at → get_or bytes i 0 ≡ get_or file (at + i) 0
  byte_here i l = get_or-take (size_at file at) (drop at file) i 0 l ∙ get_or-drop at file i 0

  word_here : (i : ℕ) → i + 2 ≤ size_at file at → word bytes i ≡ word file (at + i)
  unfolding word
  word_here i l =
      let e : at + (i + 1) ≡ at + i + 1 = omega arith in
      rw (byte_here i (omega arith), byte_here (i + 1) (omega arith), e)

  long_here : (i : ℕ) → i + 4 ≤ size_at file at → long bytes i ≡ long file (at + i)
  unfolding long
  long_here i l =
      let e : at + (i + 2) ≡ at + i + 2 = omega arith in
      rw (word_here i (omega arith), word_here (i + 2) (omega arith), e)

  pub mark_here : word bytes 0 ≡ word file at
  mark_here = word_here 0 (omega (arith, size_bounds file at)) ∙ ap (word file) (omega arith)

  fields_here : (k : ℤ) → rule_with bytes 0 k ≡ rule_with file at k
  unfolding rule_with
  fields_here k = let b = size_bounds file at in rw (word_here 2 (omega arith), word_here 4 (omega arith), word_here 6 (omega arith))

  pub rule_here : decoded_rule bytes 0 ≡ decoded_rule file at
  rule_here = go (ℕ_discrete (word file at) HR.mark)
    where
      go : Dec (word file at ≡ HR.mark) → decoded_rule bytes 0 ≡ decoded_rule file at
      go (yes e) =
          sym (rule_hours bytes 0 (mark_here ∙ e)) ∙ fields_here _
          ∙ ap (λ (n : ℕ). rule_with file at (pos 60 *ℤ signed16 n)) (word_here 8 (omega (arith, size_hours file at e)))
          ∙ rule_hours file at e
      go (no e) =
          sym (rule_minutes bytes 0 (λ q. e (sym mark_here ∙ q))) ∙ fields_here _
          ∙ ap (λ (n : ℕ). rule_with file at (signed32 n)) (long_here 8 (omega (arith, size_minutes file at e))) ∙ rule_minutes file at e

  size_here : size_at bytes 0 ≡ size_at file at
  unfolding size_at kind_at kind_among
  size_here = ap (λ (w : ℕ). (cond (eqb w HR.mark) HR RU).size) mark_here

module _ (file : List ℕ) (number : ℕ) where
  taken_from : number < length (entries Sent file) → TakenFrom file number
  taken_from h =
      let s = stands Sent file (listed_by Sent file (omega arith)) number (omega arith) in
      let b = walked_begins s.walked h in
      let e = record_here file number b in
      record {
        entry = entry s.byte (decoded_rule file s.byte);
        here = b.here;
        stretch = sym e;
        whole = rw (← e) (bytes_length file s.byte b.inside ∙ sym (size_here file s.byte b.inside));
        decodes = rw (← e) (rule_here file s.byte b.inside);
      }

  no_bytes : record_of file number ≡ [] → length (entries Sent file) ≤ number
  no_bytes e = go (dec_lt number (length (entries Sent file)))
    where
      go : Dec (number < length (entries Sent file)) → length (entries Sent file) ≤ number
      go (no l) = omega arith
      go (yes l) =
          let t = taken_from l in
          absurd (omega (arith, ap length e, t.whole, size_bounds (record_of file number) 0))

  pub record_facts : RecordFacts file number
  record_facts = record { empty = (no_bytes, (λ h. sym (record_none file number h))); taken = taken_from }
