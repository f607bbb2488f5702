-- A converted file, written record by record. Assumes nothing.
use mathlib.Core.Path.{◌≡◌, refl, sym, ap, ◌∙◌}
use mathlib.Core.Bool.{true, false}
use mathlib.Core.List.{List, [], ◌∷◌, ◌++◌, append_assoc, append-nil}
use Prim.Native.Nat.{ℕ, zero, suc, ◌+◌, ◌-◌, ◌*◌, ◌<◌, ◌≤◌}
use native.Mathlib.Omega.{arith}
use borrow.Author.Tests.{lt-ltb, le-ltb}
use borrow.Rule.Slice.PartMut.{put_mid}
use lib.Dec.{eqb}
use lib.ListN.{length, take, drop, length-append, take-append-drop}
use lib.Seq.{take-add, drop-drop, take_at, drop_at, length-take-le, take-length}
use Rattle.std.proofs.lemmas.Slice.{take-put_mid, drop-put_mid, drop-append-drop}
use Rattle.maxatom.specs.declared.Rule.{Rule}
use Rattle.maxatom.proofs.Choose.{cond_yes, cond_no}
use Rattle.derivation.specs.Refusals.{Reply, refused, answer, reply, lent}
use Rattle.derivation.specs.declared.Counts.{Counts}
use Rattle.bookfile.specs.declared.mark.Form.TheVariants.{Stored}
use Rattle.bookfile.specs.Numbers.{word}
use Rattle.bookfile.specs.Kinds.{HR, size_at, decoded_rule}
use Rattle.bookfile.specs.Reading.{entry, Placed, after, rules_begin, entries}
use Rattle.bookfile.specs.Replies.{file_reply, over}
use Rattle.bookfile.specs.Inner.{Listed, Begins}
use Rattle.bookfile.specs.Writing.{rule_record}
use Rattle.bookfile.proofs.Records.{in_minutes, size_bounds, size_minutes}
use Rattle.bookfile.proofs.Filling.{begin_inside}
use Rattle.bookfile.proofs.Walks.{Walked, walked_none, walked_begins, walked_next, listed, listed_rules}
use Rattle.bookfile.proofs.Tables.{few_rules}
use Rattle.bookfile.proofs.Stretches.{stands}
use Rattle.converter.proofs.Records.{converted_size}
use Rattle.converter.specs.Converting.{converted_record, converted_records, converted, convert_reply, convert_out}

-- the rule whose record begins at a byte, its record converted
module _ (file : List ℕ) (at : ℕ) where
  abbrev pub converted_at : List ℕ
  converted_at = converted_record file (entry at (decoded_rule file at))

  pub from_hours : eqb (word file at) HR.mark ≡ true → {r : Rule} → r ≡ decoded_rule file at → {bytes : List ℕ} → bytes ≡ rule_record r →
      bytes ≡ converted_at
  unfolding converted_record
  from_hours e f g = g ∙ ap rule_record f ∙ sym (cond_yes _ _ e)

  pub size_in_minutes : eqb (word file at) HR.mark ≡ false → size_at file at ≡ 12
  size_in_minutes e = size_minutes file at (in_minutes file at e)

  pub from_minutes : eqb (word file at) HR.mark ≡ false → {bytes : List ℕ} → bytes ≡ take (at + 12 - at) (drop at file) →
      bytes ≡ converted_at
  unfolding converted_record
  from_minutes e f =
      let n : at + 12 - at ≡ 12 = omega arith in
      f
      ∙ ap (λ (m : ℕ). take m (drop at file)) (n ∙ sym (size_in_minutes e))
      ∙ sym (cond_no _ _ e)

records_append : (file : List ℕ) (es others : List Placed) →
    converted_records file (es ++ others) ≡ converted_records file es ++ converted_records file others
unfolding converted_records
records_append file [] others = refl
records_append file (e ∷ es) others =
    ap (λ (l : List ℕ). converted_record file e ++ l) (records_append file es others)
    ∙ sym (append_assoc (converted_record file e) (converted_records file es) (converted_records file others))

records_one : (file : List ℕ) (e : Placed) → converted_records file (e ∷ []) ≡ converted_record file e
unfolding converted_records
records_one file e = append-nil (converted_record file e)

module _ (file : List ℕ) where
  -- the records of the first rules, converted
  abbrev pub first_records : ℕ → List ℕ
  first_records i = converted_records file (take i (entries Stored file))

  -- the start of the converted file, up to these records' end, and the byte of that end
  abbrev pub converted_start : ℕ → List ℕ
  converted_start i = take (rules_begin file) file ++ first_records i

  abbrev pub end : ℕ → ℕ
  end i = rules_begin file + i * 12

  records_next : {i at : ℕ} → Begins Stored file i at → first_records (i + 1) ≡ first_records i ++ converted_at file at
  records_next {i} {at} b =
      let es = entries Stored file in
      let e = entry at (decoded_rule file at) in
      ap (converted_records file) (take-add i 1 es ∙ ap (λ (l : List Placed). take i es ++ take 1 l) b.here)
      ∙ records_append file (take i es) (e ∷ [])
      ∙ ap (λ (l : List ℕ). first_records i ++ l) (records_one file e)

  module _ (l : Listed Stored file) where
    records_length : (i : ℕ) → i ≤ length (entries Stored file) → length (first_records i) ≡ i * 12
    unfolding converted_records
    records_length zero h = refl
    records_length (suc i) h =
        let s = stands Stored file l i (omega arith) in
        let b = walked_begins s.walked (omega arith) in
        let e : suc i ≡ i + 1 = omega arith in
        rw e
        (omega (
          arith,
          ap length (records_next b),
          length-append (first_records i) (converted_at file s.byte),
          records_length i (omega arith),
          converted_size file s.byte (decoded_rule file s.byte) b.inside,
        ))

module _ (file : List ℕ) (l : Listed Stored file) where
  pub converted_length : length (converted file) ≡ rules_begin file + length (entries Stored file) * 12
  unfolding converted
  converted_length =
      let es = entries Stored file in
      omega (
        arith,
        length-append (take (rules_begin file) file) (converted_records file es),
        length-take-le (rules_begin file) file (begin_inside Stored file l),
        ap (λ (s : List Placed). length (converted_records file s)) (take-length es),
        records_length file l (length es) (omega arith),
      )

-- the first i records of rules are written, the bytes behind them are as they were, and the next record begins at byte `at` of the file
pub record Put (file out₀ : List ℕ) (at i : ℕ) (out : List ℕ) : Type 0 where
  pub walked : Walked Stored file at i
  pub written : take (end file i) out ≡ converted_start file i
  pub others : drop (end file i) out ≡ drop (end file i) out₀

-- the output whose first bytes are what the file has before its rules
module _ (file out : List ℕ) (l : Listed Stored file) {begin : ℕ} (b : begin ≡ rules_begin file) {head : List ℕ} (e : head ≡ take begin file)
  where
    head_length : length head ≡ begin
    head_length = ap length e ∙ length-take-le begin file (omega (arith, begin_inside Stored file l))

    pub put_none : Put file (head ++ drop begin out) begin 0 (head ++ drop begin out)
    unfolding converted_records
    put_none =
        let n : end file 0 ≡ begin = omega arith in
        record {
          walked = rw b (walked_none Stored file l);
          written =
              ap (λ (m : ℕ). take m (head ++ drop begin out)) n ∙ take_at head (drop begin out) begin head_length ∙ e
              ∙ ap (λ (m : ℕ). take m file) b ∙ sym (append-nil (take (rules_begin file) file));
          others = refl;
        }

    -- the converted file covers these bytes
    pub over_head : over (converted file) (head ++ drop begin out) ≡ over (converted file) out
    unfolding over
    over_head =
        ap (λ (s : List ℕ). converted file ++ s)
        (drop-append-drop begin out head (length (converted file)) (omega (arith, converted_length file l)) head_length)

module _ {file out₀ : List ℕ} {at i : ℕ} {out : List ℕ} (p : Put file out₀ at i out) where
  pub put_inside : i < length (entries Stored file) → at + size_at file at ≤ length file
  put_inside h = (walked_begins p.walked h).inside

  -- the next record takes the place of twelve bytes
  pub put_next : i < length (entries Stored file) → {to next : ℕ} {part : List ℕ} → to ≡ end file i → to ≤ length out →
      part ≡ converted_at file at → next ≡ at + size_at file at → Put file out₀ next (i + 1) (put_mid to (to + 12 - to) out part)
  put_next h {to} {next} {part} e l f g =
      let b = walked_begins p.walked h in
      let n : end file (i + 1) ≡ end file i + 12 = omega arith in
      let size : length part ≡ 12 = ap length f ∙ converted_size file at (decoded_rule file at) b.inside in
      record {
        walked = rw g (walked_next p.walked h);
        written =
            take-put_mid to (to + 12 - to) out part (end file (i + 1)) (omega (arith, size)) l
            ∙ ap (λ (m : ℕ). take m out ++ part) e
            ∙ ap (λ (s : List ℕ). s ++ part) p.written
            ∙ ap (λ (s : List ℕ). converted_start file i ++ s) f
            ∙ append_assoc (take (rules_begin file) file) (first_records file i) (converted_at file at)
            ∙ ap (λ (s : List ℕ). take (rules_begin file) file ++ s) (sym (records_next file b));
        others =
            drop-put_mid to (to + 12 - to) out part (end file (i + 1)) (omega arith) l (omega (arith, size))
            ∙ ap (λ (m : ℕ). drop m out) n ∙ sym (drop-drop 12 (end file i) out) ∙ ap (drop 12) p.others ∙ drop-drop 12 (end file i) out₀
            ∙ ap (λ (m : ℕ). drop m out₀) (sym n);
      }

  pub put_all : Listed Stored file → length (entries Stored file) ≤ i → out ≡ over (converted file) out₀
  unfolding over converted
  put_all l h =
      let all : i ≡ length (entries Stored file) = omega (arith, p.walked.low) in
      let whole : converted_start file i ≡ converted file =
      ap (converted_start file) all
      ∙ ap (λ (es : List Placed). take (rules_begin file) file ++ converted_records file es) (take-length (entries Stored file)) in
      let size : end file i ≡ length (converted file) = omega (arith, converted_length file l) in
      sym (take-append-drop (end file i) out) ∙ ap (λ (s : List ℕ). s ++ drop (end file i) out) (p.written ∙ whole)
      ∙ ap (λ (s : List ℕ). converted file ++ s) (p.others ∙ ap (λ (n : ℕ). drop n out₀) size)

-- the converter, by what checking the file said
module _ (file out : List ℕ) where
  abbrev said : Reply ℕ
  said = convert_reply file (length out)

  pub convert_refused : {number place : ℕ} → file_reply Stored file ≡ refused number place → refused number place ≡ said
  unfolding convert_reply after
  convert_refused e = rw e

  module _ {counts : Counts} (e : file_reply Stored file ≡ answer counts) {begin : ℕ} (b : begin ≡ rules_begin file) where
    pub counted_length : length (converted file) ≡ begin + counts.rules * 12
    counted_length = omega (arith, b, converted_length file (listed Stored file e), listed_rules Stored file e)

    pub counted_inside : begin ≤ length file
    counted_inside = omega (arith, b, begin_inside Stored file (listed Stored file e))

    pub convert_short : length out < begin + counts.rules * 12 → refused 21 0 ≡ said
    unfolding convert_reply after reply
    convert_short h = rw e (sym (cond_yes _ _ (lt-ltb (length out) (length (converted file)) (omega (arith, counted_length)))))

    pub convert_room : begin + counts.rules * 12 ≤ length out → answer (begin + counts.rules * 12) ≡ said
    unfolding convert_reply after reply
    convert_room h =
        rw e
        (ap answer (sym counted_length) ∙ sym (cond_no _ _ (le-ltb (length out) (length (converted file)) (omega (arith, counted_length)))))

  -- the output stays where it is refused, and has the converted file where it is not
  pub convert_left : {number place : ℕ} → refused number place ≡ said → out ≡ convert_out file out
  unfolding convert_out lent
  convert_left e = rw (← e)

  pub convert_written : {bytes : ℕ} → answer bytes ≡ said → over (converted file) out ≡ convert_out file out
  unfolding convert_out lent
  convert_written e = rw (← e)

-- what the code says of one record, of a file's records, and of a file for an output
pub ruleset records = (size_bounds, size_in_minutes, from_hours, from_minutes)

pub ruleset writings = (begin_inside, converted_length, length-take-le)

pub ruleset conversions = (listed, listed_rules, few_rules, counted_length, counted_inside, convert_refused, convert_short, convert_room)
