-- The first 16,384 bytes of a file reach its verdict. Assumes nothing.
use mathlib.Core.Path.{◌≡◌, refl, sym, ap, ◌∙◌}
use mathlib.Core.Bool.{Bool, true, false, cond}
use mathlib.Core.List.{List, [], ◌∷◌}
use Prim.Native.Nat.{ℕ, zero, suc, ◌+◌, ◌*◌, ◌<◌, ◌≤◌, min}
use native.Mathlib.Nat.{min-eq_left, min-eq_right}
use native.Mathlib.Decide.{dec_lt, ℕ_discrete}
use native.Mathlib.Omega.{arith}
use borrow.Author.Tests.{le-ltb, le-leb, lt-leb}
use lib.Dec.{ltb, leb}
use lib.IntN.{ℤ, pos, ◌*ℤ◌}
use lib.ListN.{length, take, length-take}
use lib.Seq.{get_or-take}
use Rattle.maxatom.specs.Book.{most_jobs, most_rules}
use Rattle.maxatom.specs.declared.Rule.{Rule}
use Rattle.derivation.specs.Refusals.{Reply, refused, answer, verdict}
use Rattle.bookfile.specs.declared.mark.Form.{Form}
use Rattle.bookfile.specs.declared.reading.LatestTime.{LatestTime}
use Rattle.bookfile.specs.Numbers.{word, long, signed16, signed32}
use Rattle.bookfile.specs.Kinds.{Kind, class_checks, jobs_at, decoded_latest, HR, rule_with, kind_at, size_at, decoded_rule, among}
use Rattle.bookfile.specs.Reading.{head_checks, latest_here, latest_record_checks, latest_record_reply, record_checks, rule_reply, before, latest_from, rules_from, read, end_of, reading, latest_records, rules_begin, book_reply, latest_of_file}
use Rattle.bookfile.specs.Replies.{file_reply}
use Rattle.bookfile.specs.Theorems.{FirstBytes}
use Rattle.bookfile.proofs.Records.{size_bounds, own_checks, rule_hours, rule_minutes}

module _ (n : ℕ) (file : List ℕ) where
  abbrev cut : List ℕ
  cut = take n file

  -- a length against a number within the part
  length_lt : (m : ℕ) → m ≤ n → ltb (length cut) m ≡ ltb (length file) m
  length_lt m h = ap (λ (l : ℕ). ltb l m) (length-take n file) ∙ go (dec_lt (length file) n)
    where
      go : Dec (length file < n) → ltb (min n (length file)) m ≡ ltb (length file) m
      go (yes l) = let e : min n (length file) ≡ length file = min-eq_right (omega arith) in rw e
      go (no l) =
          let e : min n (length file) ≡ n = min-eq_left (omega arith) in
          rw (e, le-ltb n m h, le-ltb (length file) m (omega arith))

  leb_length : (m : ℕ) → m ≤ n → leb m (length cut) ≡ leb m (length file)
  leb_length m h = ap (leb m) (length-take n file) ∙ go (dec_lt (length file) n)
    where
      go : Dec (length file < n) → leb m (min n (length file)) ≡ leb m (length file)
      go (yes l) = let e : min n (length file) ≡ length file = min-eq_right (omega arith) in rw e
      go (no l) =
          let e : min n (length file) ≡ n = min-eq_left (omega arith) in
          rw (e, le-leb m n h, le-leb m (length file) (omega arith))

  length_le : (m : ℕ) → m < n → leb (length cut) m ≡ leb (length file) m
  length_le m h = ap (λ (l : ℕ). leb l m) (length-take n file) ∙ go (dec_lt (length file) n)
    where
      go : Dec (length file < n) → leb (min n (length file)) m ≡ leb (length file) m
      go (yes l) = let e : min n (length file) ≡ length file = min-eq_right (omega arith) in rw e
      go (no l) =
          let e : min n (length file) ≡ n = min-eq_left (omega arith) in
          rw (e, lt-leb n m h, lt-leb (length file) m (omega arith))

  pub word_same : (at : ℕ) → at + 2 ≤ n → word cut at ≡ word file at
  unfolding word
  word_same at h = rw (get_or-take n file at 0 (omega arith), get_or-take n file (at + 1) 0 (omega arith))

  long_same : (at : ℕ) → at + 4 ≤ n → long cut at ≡ long file at
  unfolding long
  long_same at h = rw (word_same at (omega arith), word_same (at + 2) (omega arith))

  module _ (at : ℕ) (h : at + 8 ≤ n) where
    pub here_same : latest_here cut at ≡ latest_here file at
    unfolding latest_here
    here_same = rw (leb_length (at + 2) (omega arith), word_same at (omega arith))

    pub time_same : decoded_latest cut at ≡ decoded_latest file at
    unfolding decoded_latest
    time_same = rw (word_same (at + 2) (omega arith), long_same (at + 4) (omega arith))

    pub latest_same : (jobs : ℕ) (again : Bool) → latest_record_reply jobs cut again at ≡ latest_record_reply jobs file again at
    unfolding latest_record_reply latest_record_checks
    latest_same jobs again = rw (length_lt (at + 8) h, time_same)

  module _ (at : ℕ) (h : at + 12 ≤ n) where
    kind_same : kind_at cut at ≡ kind_at file at
    unfolding kind_at
    kind_same = rw (word_same at (omega arith))

    size_same : size_at cut at ≡ size_at file at
    unfolding size_at
    size_same = ap (λ (k : Kind Rule). k.size) kind_same

    fields_same : (k : ℤ) → rule_with cut at k ≡ rule_with file at k
    unfolding rule_with
    fields_same k = rw (word_same (at + 2) (omega arith), word_same (at + 4) (omega arith), word_same (at + 6) (omega arith))

    rule_same : decoded_rule cut at ≡ decoded_rule file at
    rule_same = go (ℕ_discrete (word file at) HR.mark)
      where
        mark : word cut at ≡ word file at
        mark = word_same at (omega arith)

        go : Dec (word file at ≡ HR.mark) → decoded_rule cut at ≡ decoded_rule file at
        go (yes e) =
            sym (rule_hours cut at (mark ∙ e)) ∙ fields_same _
            ∙ ap (λ (w : ℕ). rule_with file at (pos 60 *ℤ signed16 w)) (word_same (at + 8) (omega arith)) ∙ rule_hours file at e
        go (no e) =
            sym (rule_minutes cut at (λ q. e (sym mark ∙ q))) ∙ fields_same _
            ∙ ap (λ (w : ℕ). rule_with file at (signed32 w)) (long_same (at + 8) (omega arith)) ∙ rule_minutes file at e

    reply_same : (form : Form) (jobs count : ℕ) → rule_reply form jobs cut count at ≡ rule_reply form jobs file count at
    unfolding rule_reply record_checks
    reply_same form jobs count =
        rw (
          own_checks cut at jobs (class_checks form (decoded_rule cut at) at),
          own_checks file at jobs (class_checks form (decoded_rule file at) at),
          length_lt (at + 2) (omega arith),
          word_same at (omega arith),
          size_same,
          length_lt (at + size_at file at) (omega (arith, size_bounds file at)),
          rule_same,
        )

  pub head_same : (form : Form) → 4 ≤ n → verdict (head_checks form cut) ≡ verdict (head_checks form file)
  unfolding head_checks jobs_at
  head_same form h =
      rw (length_lt 2 (omega arith), length_lt 4 (omega arith), word_same 0 (omega arith), word_same 2 (omega arith))

-- each latest time's record that is read begins within the first 2,060 bytes
times_same : (file : List ℕ) (jobs most : ℕ) (given : List ℕ) (at count : ℕ) → count + most ≡ most_jobs + 1 → at ≤ 4 + 8 * count →
    latest_from most jobs (take 16384 file) given at ≡ latest_from most jobs file given at
unfolding latest_from
times_same file jobs zero given at count e h = refl
times_same file jobs (suc most) given at count e h =
    let f : at + 8 ≤ 16384 = omega arith in
    rw (
      here_same 16384 file at f,
      time_same 16384 file at f,
      latest_same 16384 file at f jobs (among (decoded_latest file at).job given),
      times_same file jobs most ((decoded_latest file at).job ∷ given) (at + 8) (count + 1) (omega arith) (omega arith),
    )

-- and they are no more than the looks
times_few : (most jobs : ℕ) (file given : List ℕ) (at : ℕ) → length (read (latest_from most jobs file given at)) ≤ most
unfolding latest_from before read
times_few zero jobs file given at = omega arith
times_few (suc most) jobs file given at =
    go (latest_here file at) (latest_record_reply jobs file (among (decoded_latest file at).job given) at)
    (latest_from most jobs file ((decoded_latest file at).job ∷ given) (at + 8))
    (times_few most jobs file ((decoded_latest file at).job ∷ given) (at + 8))
  where
    go : (t : Bool) (said : Reply LatestTime) (rest : Reply (List LatestTime)) → length (read rest) ≤ most →
        length (read (cond t (before (λ x. x) said rest) (answer []))) ≤ suc most
    go false said rest h = omega arith
    go true (refused number place) rest h = omega arith
    go true (answer t) (refused number place) h = omega arith
    go true (answer t) (answer more) h = omega arith

-- each rule's record that is read begins within the first 14,348 bytes
rules_same : (form : Form) (file : List ℕ) (jobs most count at : ℕ) → count + most ≡ most_rules + 1 → at ≤ 2060 + 12 * count →
    rules_from form most jobs (take 16384 file) count at ≡ rules_from form most jobs file count at
unfolding rules_from
rules_same form file jobs zero count at e h = refl
rules_same form file jobs (suc most) count at e h =
    let f : at + 12 ≤ 16384 = omega arith in
    rw (
      length_le 16384 file at (omega arith),
      reply_same 16384 file at f form jobs count,
      size_same 16384 file at f,
      rules_same form file jobs most (count + 1) (at + size_at file at) (omega arith) (omega (arith, size_bounds file at)),
    )

module _ (file : List ℕ) where
  jobs_same : word (take 16384 file) 2 ≡ word file 2
  jobs_same = word_same 16384 file 2 (omega arith)

  latest_of_same : latest_records (take 16384 file) ≡ latest_records file
  latest_of_same = rw jobs_same (times_same file (word file 2) (most_jobs + 1) [] 4 0 refl (omega arith))

  pub begin_bound : rules_begin file ≤ 2060
  unfolding end_of
  begin_bound = omega (arith, times_few (most_jobs + 1) (word file 2) file [] 4)

  book_same : (form : Form) → book_reply form (take 16384 file) ≡ book_reply form file
  unfolding book_reply reading
  book_same form =
      rw (
        head_same 16384 file form (omega arith),
        latest_of_same,
        jobs_same,
        rules_same form file (word file 2) (most_rules + 1) 0
            (rules_begin file) refl (omega (arith, begin_bound)),
      )

  pub first_bytes : (form : Form) → FirstBytes form file
  unfolding file_reply latest_of_file
  first_bytes form = record { verdict = rw (jobs_same, book_same form); latest = rw (latest_of_same, jobs_same); rules = book_same form }
