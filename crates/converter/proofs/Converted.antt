-- A stored file that is not refused, converted. Assumes nothing.
use mathlib.Core.Path.{◌≡◌, refl, sym, ap, subst, ◌∙◌}
use mathlib.Core.Bool.{Bool, true, false, cond, and-false}
use mathlib.Core.List.{List, [], ◌∷◌, ◌++◌, map}
use Prim.Native.Nat.{ℕ, zero, suc, ◌+◌, ◌≤◌}
use native.Mathlib.Omega.{arith}
use borrow.Author.Tests.{le-leb, lt-leb}
use lib.Dec.{eqb, leb}
use lib.ListN.{length, take, drop, length-drop}
use lib.Seq.{drop-drop, drop_at, take_at, length-take-le}
use Rattle.std.proofs.lemmas.List.{take-append-drop}
use Rattle.maxatom.specs.Book.{most_jobs, most_rules, Each}
use Rattle.maxatom.specs.declared.Rule.{Rule}
use Rattle.maxatom.proofs.Choose.{cond_yes}
use Rattle.derivation.specs.Refusals.{Reply, answer}
use Rattle.derivation.specs.Run.{solve}
use Rattle.derivation.proofs.Checks.{answer_not}
use Rattle.bookfile.specs.declared.mark.Form.TheVariants.{Sent, Stored}
use Rattle.bookfile.specs.Numbers.{word}
use Rattle.bookfile.specs.Kinds.{HR, size_at}
use Rattle.bookfile.specs.Reading.{latest_here, rule_reply, entry, Placed, before, rules_from, read, end_of, latest_records, rules_begin, rules_of, book_reply, entries, latest_of_file, book_of_file, stretch}
use Rattle.bookfile.specs.Replies.{counted, file_reply}
use Rattle.bookfile.specs.Inner.{Listed}
use Rattle.bookfile.specs.Theorems.{stretches}
use Rattle.bookfile.proofs.Rules.{in_file, not_full}
use Rattle.bookfile.proofs.Filling.{begin_inside}
use Rattle.bookfile.proofs.Walks.{split, listed, passes_few}
use Rattle.bookfile.proofs.Openings.{jobs_kept, head_kept, times_kept}
use Rattle.bookfile.proofs.Refusing.{to_the_end}
use Rattle.converter.specs.Converting.{converted_record, converted_records, converted}
use Rattle.converter.specs.Theorems.{Minutes, InMinutes, Converting, SentConverts}
use Rattle.converter.proofs.Records.{converted_size, read_fields, written, record_at, taken}
use Rattle.converter.proofs.Forms.{read_whole, sent_reply, taken_too}

-- rules, read again from records of 12 bytes each, of which the first begins at a byte
unfoldable pub moved : ℕ → List Placed → List Placed
moved to [] = []
moved to (e ∷ more) = entry to e.rule ∷ moved (to + 12) more

moved_rules : (to : ℕ) (es : List Placed) → map (λ (e : Placed). e.rule) (moved to es) ≡ map (λ (e : Placed). e.rule) es
unfolding moved
moved_rules to [] = refl
moved_rules to (e ∷ es) = ap (λ (rs : List Rule). e.rule ∷ rs) (moved_rules (to + 12) es)

moved_length : (to : ℕ) (es : List Placed) → length (moved to es) ≡ length es
unfolding moved
moved_length to [] = refl
moved_length to (e ∷ es) = ap suc (moved_length (to + 12) es)

-- what is read of a converted file from byte `to` on: these rules, all in minutes, and no latest time
record Rest (most jobs : ℕ) (file : List ℕ) (count to : ℕ) (es : List Placed) : Type 0 where
  rules : rules_from Stored most jobs file count to ≡ answer (moved to es)
  minutes : Each (Minutes file) (moved to es)
  other : latest_here file to ≡ false

-- The rules of a file from byte `at` on are those of the converted file `new` from byte `to` on, where their converted records stand there.
rest_of : (most jobs : ℕ) (file new : List ℕ) (count at to : ℕ) (es : List Placed) → jobs ≤ most_jobs →
    rules_from Stored most jobs file count at ≡ answer es → drop to new ≡ converted_records file es → Rest most jobs new count to es
unfolding rules_from converted_records moved latest_here before
rest_of zero jobs file new count at to es few e d = absurd (answer_not (sym e))
rest_of (suc most) jobs file new count at to es few e d =
    go (leb (length file) at) (rest_of most jobs file new (count + 1) (at + size_at file at) (to + 12)) e
  where
    next : Reply (List Placed)
    next = rules_from Stored most jobs file (count + 1) (at + size_at file at)

    go : (t : Bool) →
        ((others : List Placed) → jobs ≤ most_jobs → next ≡ answer others → drop (to + 12) new ≡ converted_records file others →
        Rest most jobs new (count + 1) (to + 12) others) →
        cond t (answer []) (before (entry at) (rule_reply Stored jobs file count at) next) ≡ answer es →
        Rest (suc most) jobs new count to es
    go true f q =
        let none : es ≡ [] = cc in
        let end : length new ≤ to = omega (arith, ap length (d ∙ ap (converted_records file) none), length-drop to new) in
        rw none
        (record {
          rules = cond_yes _ _ (le-leb (length new) to end);
          minutes = tt;
          other = rw (lt-leb (to + 2) (length new) (omega arith)) refl;
        })
    go false f q =
        let s = split at (rule_reply Stored jobs file count at) next es q in
        let bytes = converted_record file (entry at s.first) in
        let w = written jobs file count at s.says_first few in
        let size : length bytes ≡ 12 = converted_size file at s.first (in_file Stored jobs file count at s.says_first) in
        let here : drop to new ≡ bytes ++ converted_records file s.others = d ∙ ap (converted_records file) s.is in
        let stand = record_at new to bytes (converted_records file s.others) here size w in
        let behind : drop (to + 12) new ≡ converted_records file s.others =
        sym (drop-drop 12 to new) ∙ ap (drop 12) here ∙ drop_at bytes (converted_records file s.others) 12 size in
        let fields = read_fields jobs file count at s.says_first in
        let r = f s.others few s.says_more behind in
        rw s.is
        (record {
          rules =
              rw (
                lt-leb (length new) to (omega (arith, stand.inside)),
                taken stand jobs count (not_full Stored jobs file count at s.says_first) fields.0 fields.1,
                stand.size,
                r.rules,
              )
              refl;
          minutes = (ap (λ (n : ℕ). eqb n HR.mark) stand.mark, r.minutes);
          other = rw stand.mark (and-false (leb (to + 2) (length new)));
        })

-- the file converted
module _ (file : List ℕ) (l : Listed Stored file) where
  abbrev begin : ℕ
  begin = rules_begin file

  abbrev es : List Placed
  es = entries Stored file

  front : length (take begin file) ≡ begin
  front = length-take-le begin file (begin_inside Stored file l)

  same : take begin (converted file) ≡ take begin file
  unfolding converted
  same = take_at (take begin file) (converted_records file es) begin front

  behind : drop begin (converted file) ≡ converted_records file es
  unfolding converted
  behind = drop_at (take begin file) (converted_records file es) begin front

  rest : Rest (most_rules + 1) (word file 2) (converted file) 0 begin es
  rest = rest_of (most_rules + 1) (word file 2) file (converted file) 0 begin begin es (passes_few Stored file l.head) l.all behind

  jobs : word (converted file) 2 ≡ word file 2
  jobs = jobs_kept file (converted file) same

  times : latest_records (converted file) ≡ latest_records file
  times = times_kept file (converted file) same l rest.other

  rules : rules_of Stored (converted file) ≡ answer (moved begin es)
  rules =
      ap (λ (n : ℕ). rules_from Stored (most_rules + 1) n (converted file) 0 (rules_begin (converted file))) jobs
      ∙ ap (λ (t : Reply _). rules_from Stored (most_rules + 1) (word file 2) (converted file) 0 (end_of t)) times
      ∙ rest.rules

  reads : book_reply Stored (converted file) ≡ answer (moved begin es)
  reads =
      read_whole Stored (converted file) (head_kept file (converted file) same Stored ∙ l.head)
      (times ∙ l.times ∙ ap (λ (t : Reply _). answer (read t)) (sym times)) rules

  counts_same : file_reply Stored (converted file) ≡ file_reply Stored file
  unfolding file_reply counted
  counts_same =
      let size : length (moved begin es) ≡ length es = moved_length begin es in
      ap (λ (n : ℕ). counted n (book_reply Stored (converted file))) jobs ∙ ap (counted (word file 2)) reads
      ∙ ap (λ (n : ℕ). answer (record { jobs = word file 2; rules = n })) size
      ∙ sym (ap (counted (word file 2)) (read_whole Stored file l.head l.times l.all))

  read_entries : entries Stored (converted file) ≡ moved begin es
  unfolding read
  read_entries = ap read reads

  book_same : book_of_file Stored (converted file) ≡ book_of_file Stored file
  unfolding latest_of_file
  book_same = rw (times, jobs, read_entries, moved_rules begin es) refl

  all_minutes : InMinutes (converted file)
  all_minutes = subst (Each (Minutes (converted file))) (sym read_entries) rest.minutes

-- records in minutes are converted to themselves, and so is a file of them
minutes_stretches : (file : List ℕ) (es : List Placed) → Each (Minutes file) es → converted_records file es ≡ stretches file es
unfolding converted_records converted_record stretches stretch
minutes_stretches file [] m = refl
minutes_stretches file (e ∷ es) m = rw (m.0, minutes_stretches file es m.1) refl

pub itself : (file : List ℕ) → Listed Stored file → InMinutes file → converted file ≡ file
unfolding converted
itself file l m =
    let begin = rules_begin file in
    rw (
      minutes_stretches file (entries Stored file) m,
      (to_the_end Stored file).whole (most_rules + 1) begin (entries Stored file) l.all,
    )
    (take-append-drop begin file)

pub converting : Converting
unfolding read
converting file counts e =
    let l = listed Stored file e in
    let new = converted file in
    let c : file_reply Stored new ≡ answer counts = counts_same file l ∙ e in
    let m = all_minutes file l in
    let b = book_same file l in
    record {
      said = c;
      book = b;
      sent = sent_reply new c m;
      again = λ d f.
          let r : entries Stored new ≡ entries Sent new = ap read (taken_too new f).entries_are in
          let k : book_of_file Sent new ≡ book_of_file Stored new = rw r refl in
          record { book = k ∙ b; run = ap solve (k ∙ b) };
      minutes = m;
      itself = itself file l;
      twice = itself new (listed Stored new c) m;
    }

-- a file that the reader takes is one in minutes
pub sent_converts : SentConverts
unfolding file_reply
sent_converts file counts e =
    let t = taken_too file e in
    let stored : file_reply Stored file ≡ answer counts = ap (counted (word file 2)) t.entries_are ∙ e in
    (stored, itself file (listed Stored file stored) t.minutes)
