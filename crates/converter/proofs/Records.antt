-- A rule's record, converted, is read to its rule. Assumes nothing.
use mathlib.Core.Path.{◌≡◌, refl, sym, ap, subst, ◌∙◌}
use mathlib.Core.Bool.{Bool, true, false, cond, not, ◌||◌}
use mathlib.Core.List.{List, [], ◌++◌}
use Prim.Native.Nat.{ℕ, ◌+◌, ◌*◌, ◌/◌, ◌%◌, ◌<◌, ◌≤◌}
use native.Mathlib.Omega.{arith}
use borrow.Author.Tests.{eqb-true, le-ltb, lt-leb, not-false}
use lib.Dec.{eqb}
use lib.IntN.{ℤ}
use lib.ListN.{length, take, drop, length-append, length-drop}
use lib.Seq.{take_at, get_or-drop}
use mir.Syntax.{w32}
use mir.Val.{SFits, of_z}
use mir.Facts.{to_z-of_z, Fits-of_z}
use Rattle.maxatom.specs.Book.{most_jobs, most_rules, Each}
use Rattle.maxatom.specs.Accepted.{InBook}
use Rattle.maxatom.specs.declared.Rule.{Rule}
use Rattle.maxatom.proofs.Choose.{clash}
use Rattle.maxatom.proofs.Integers.{abs_parts}
use Rattle.maxatom.proofs.Signed.{fits_make}
use Rattle.derivation.specs.Refusals.{answer, job_outside, offset_outside}
use Rattle.derivation.proofs.Checks.{Passes, accepting, rule_in_lem}
use Rattle.bookfile.specs.declared.mark.Form.TheVariants.{Sent, Stored}
use Rattle.bookfile.specs.Numbers.{word, long, signed32, unsigned32, bytes_of}
use Rattle.bookfile.specs.Kinds.{kind_checks, RU, HR, rule_with, rule_marks, marks, among, kind_at, size_at, decoded_rule}
use Rattle.bookfile.specs.Reading.{record_checks, rule_reply, entry, bytes_at}
use Rattle.bookfile.specs.Writing.{rule_record}
use Rattle.bookfile.proofs.Words.{signed32_is, unsigned32_is}
use Rattle.bookfile.proofs.Records.{in_minutes, size_minutes, rule_minutes, own_checks}
use Rattle.bookfile.proofs.Rules.{passes, in_file, rule_is}
use Rattle.bookfile.proofs.Prefix.{word_same}
use Rattle.bookfile.proofs.Stretches.{bytes_length, mark_here, rule_here}
use Rattle.converter.specs.Converting.{converted_record}

-- a number of two bytes, and of four, from its bytes
two_bytes : (n : ℕ) → n < 65536 → n % 256 + 256 * (n / 256 % 256) ≡ n
two_bytes n h = omega arith

four_bytes : (n : ℕ) → n < 4294967296 →
    n % 256 + 256 * (n / 256 % 256) + 65536 * (n / 256 / 256 % 256 + 256 * (n / 256 / 256 / 256 % 256)) ≡ n
four_bytes n h = omega arith

-- a number with sign, from its 32 bits
signed_back : (t : ℤ) → SFits w32 t → (unsigned32 t < 4294967296) × (signed32 (unsigned32 t) ≡ t)
signed_back t f =
    let e = unsigned32_is t f in
    let small : of_z w32 t < 4294967296 = (Fits-of_z {w = w32} f).fits in
    rw (← e) (small, sym (signed32_is (of_z w32 t) small) ∙ to_z-of_z {w = w32} f)

-- bytes with the mark `RU` that are read to a rule
pub record ReadsTo (bytes : List ℕ) (rule : Rule) : Type 0 where
  pub mark : word bytes 0 ≡ RU.mark
  pub says : decoded_rule bytes 0 ≡ rule

module _ (jobs : ℕ) (r : Rule) (few : jobs ≤ most_jobs) (b : InBook jobs r) where
  fits : SFits w32 r.k
  fits = fits_make w32 (omega (arith, b.offset, abs_parts r.k)) (omega (arith, b.offset, abs_parts r.k))

  fields : rule_with (rule_record r) 0 (signed32 (long (rule_record r) 8)) ≡ r
  unfolding rule_with long word rule_record bytes_of
  fields =
      let (small, back) = signed_back r.k fits in
      rw (
        two_bytes r.x (omega (arith, b.first)),
        two_bytes r.y (omega (arith, b.second)),
        two_bytes r.z (omega (arith, b.third)),
        four_bytes (unsigned32 r.k) small,
        back,
      )

  new_reads : ReadsTo (rule_record r) r
  unfolding word rule_record bytes_of
  new_reads =
      record { mark = refl; says = sym (rule_minutes (rule_record r) 0 (in_minutes (rule_record r) 0 refl)) ∙ fields }

-- the mark of a rule's record in minutes
pub sent_mark : (w : ℕ) → among w (rule_marks Sent) ≡ true → w ≡ RU.mark
unfolding among
sent_mark w e = go (eqb w RU.mark) refl e
  where
    go : (t : Bool) → eqb w RU.mark ≡ t → (t || false) ≡ true → w ≡ RU.mark
    go true p q = eqb-true w RU.mark p
    go false p q = clash q refl

pub minutes_mark : (w : ℕ) → among w (rule_marks Stored) ≡ true → eqb w HR.mark ≡ false → w ≡ RU.mark
unfolding among
minutes_mark w e h = sent_mark w (rw h at e)

-- a converted record has 12 bytes
pub converted_size : (file : List ℕ) (at : ℕ) (r : Rule) → at + size_at file at ≤ length file → length (converted_record file (entry at r)) ≡ 12
unfolding converted_record rule_record bytes_of
converted_size file at r h = go _ refl (eqb (word file at) HR.mark) refl
  where
    go : (bytes : List ℕ) → length bytes ≡ 12 → (t : Bool) → eqb (word file at) HR.mark ≡ t → length (cond t bytes (bytes_at file at)) ≡ 12
    go bytes n true e = n
    go bytes n false e = bytes_length file at h ∙ size_minutes file at (in_minutes file at e)

-- a record that was read, converted
module _ (jobs : ℕ) (file : List ℕ) (count at : ℕ) {r : Rule} (e : rule_reply Stored jobs file count at ≡ answer r) where
  pub read_fields : (job_outside jobs r ≡ false) × (offset_outside r ≡ false)
  unfolding record_checks
  read_fields =
      let own : Each Passes (kind_checks (kind_at file at) jobs file at ++ []) = (passes Stored jobs file count at e).1.1.1.1 in
      let f = subst (Each Passes) (own_checks file at jobs []) own in
      rw (rule_is Stored jobs file count at e) (f.1.0, f.1.1.0)

  pub written : jobs ≤ most_jobs → ReadsTo (converted_record file (entry at r)) r
  unfolding converted_record record_checks
  written few = go (eqb (word file at) HR.mark) refl
    where
      go : (t : Bool) → eqb (word file at) HR.mark ≡ t → ReadsTo (cond t (rule_record r) (bytes_at file at)) r
      go true h = let f = read_fields in new_reads jobs r few (rule_in_lem jobs r f.0 f.1)
      go false h =
          let i = in_file Stored jobs file count at e in
          record {
            mark = mark_here file at i ∙ minutes_mark (word file at) (not-false _ (passes Stored jobs file count at e).1.1.0) h;
            says = rule_here file at i ∙ sym (rule_is Stored jobs file count at e);
          }

-- a rule's record of 12 bytes stands in a file from a byte on
pub record RecordAt (file : List ℕ) (at : ℕ) (rule : Rule) : Type 0 where
  pub inside : at + 12 ≤ length file
  pub mark : word file at ≡ RU.mark
  pub size : size_at file at ≡ 12
  pub says : decoded_rule file at ≡ rule

module _ (file : List ℕ) (at : ℕ) (bytes more : List ℕ) (d : drop at file ≡ bytes ++ more) (size : length bytes ≡ 12) where
  pub record_at : {r : Rule} → ReadsTo bytes r → RecordAt file at r
  unfolding word
  record_at w =
      let part : take 12 (drop at file) ≡ bytes = ap (take 12) d ∙ take_at bytes more 12 size in
      let h : at + 12 ≤ length file = omega (arith, ap length d, length-append bytes more, size, length-drop at file) in
      let e : at + 0 ≡ at = omega arith in
      let first : word (drop at file) 0 ≡ word file at = rw (get_or-drop at file 0 0, get_or-drop at file 1 0, e) refl in
      let mark : word file at ≡ RU.mark =
      sym first ∙ sym (word_same 12 (drop at file) 0 (omega arith)) ∙ ap (λ (b : List ℕ). word b 0) part ∙ w.mark in
      let twelve : size_at file at ≡ 12 = size_minutes file at (in_minutes file at (ap (λ (n : ℕ). eqb n HR.mark) mark)) in
      record {
        inside = h;
        mark = mark;
        size = twelve;
        says =
            sym (rule_here file at (omega (arith, h, twelve))) ∙ ap (λ (n : ℕ). decoded_rule (take n (drop at file)) 0) twelve
            ∙ ap (λ (b : List ℕ). decoded_rule b 0) part ∙ w.says;
      }

-- a rule of the book that stands there is read by the converter
module _ {file : List ℕ} {at : ℕ} {r : Rule} (s : RecordAt file at r) where
  pub taken : (jobs count : ℕ) → count < most_rules → job_outside jobs r ≡ false → offset_outside r ≡ false →
      rule_reply Stored jobs file count at ≡ answer r
  unfolding rule_reply record_checks among
  taken jobs count n j o =
      let known : not (among (word file at) (marks Stored)) ≡ false = rw s.mark refl in
      let ruled : not (among (word file at) (rule_marks Stored)) ≡ false = rw s.mark refl in
      let own : Each Passes (kind_checks (kind_at file at) jobs file at ++ []) =
      subst (Each Passes) (sym (own_checks file at jobs []))
      (le-ltb (length file) (at + size_at file at) (omega (arith, s.inside, s.size)), (rw s.says j, (rw s.says o, tt))) in
      accepting (record_checks Stored jobs file count at) (decoded_rule file at)
      (le-ltb (length file) (at + 2) (omega (arith, s.inside)), (known, (ruled, (lt-leb most_rules count n, own))))
      ∙ ap answer s.says
