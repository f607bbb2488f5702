-- The latest times of a file that is not refused, stored record by record in a list. Assumes nothing.
use mathlib.Core.Path.{◌≡◌, refl, sym, ap, ◌∙◌}
use mathlib.Core.Bool.{Bool, true, false, cond, ◌||◌}
use mathlib.Core.List.{List, [], ◌∷◌}
use Prim.Native.Nat.{ℕ, zero, suc, ◌+◌, ◌*◌, ◌<◌, ◌≤◌}
use native.Mathlib.Omega.{arith}
use native.Mathlib.Decide.{ℕ_discrete}
use borrow.Author.Tests.{eq-eqb, ne_eqb}
use lib.Dec.{eqb}
use lib.IntN.{ℤ, pos}
use lib.ListN.{length, get_or, set, replicate, length-set, length-replicate}
use Rattle.std.proofs.Common.{get_or-set_same, get_or-set_other}
use Rattle.std.proofs.lemmas.List.{ext_get_or, get_or-replicate}
use Rattle.maxatom.specs.Book.{most_jobs}
use Rattle.maxatom.proofs.Choose.{clash}
use Rattle.derivation.specs.Refusals.{Reply, refused, answer, latest_outside}
use Rattle.derivation.proofs.Checks.{answer_not}
use Rattle.bookfile.specs.declared.mark.Form.{Form}
use Rattle.bookfile.specs.declared.reading.LatestTime.{LatestTime}
use Rattle.bookfile.specs.Numbers.{word}
use Rattle.bookfile.specs.Kinds.{decoded_latest, among}
use Rattle.bookfile.specs.Reading.{latest_here, latest_record_reply, before, latest_from, read, end_of, latest_records, rules_begin, minute_of, minutes_from, latest_of_file}
use Rattle.bookfile.specs.Inner.{Listed}
use Rattle.bookfile.proofs.Latest.{latest_is, latest_in_file, latest_in_book, latest_in_bounds, latest_first, times_more, times_end}
use Rattle.bookfile.proofs.Walks.{listed_long, minutes_length}

-- latest times that pass the checks, those of the jobs given already read
abbrev pub Good : ℕ → List ℕ → List LatestTime → Type 0
Good jobs given [] = Unit {0}
Good jobs given (t ∷ more) =
    (t.job < jobs) × (latest_outside t.minute ≡ false) × (among t.job given ≡ false) × Good jobs (t.job ∷ given) more

-- the first of the latest times that were read from a byte on, and the others, read with `most` looks
pub record First (most jobs : ℕ) (file given : List ℕ) (at : ℕ) (found : List LatestTime) : Type 0 where
  pub others : List LatestTime
  pub taken : latest_record_reply jobs file (among (decoded_latest file at).job given) at ≡ answer (decoded_latest file at)
  pub more : latest_from most jobs file ((decoded_latest file at).job ∷ given) (at + 8) ≡ answer others
  pub is : found ≡ decoded_latest file at ∷ others

module _ (most jobs : ℕ) (file given : List ℕ) (at : ℕ) (found : List LatestTime)
    (e : latest_from (suc most) jobs file given at ≡ answer found) where
  pub first_of : latest_here file at ≡ true → First most jobs file given at found
  unfolding before
  first_of h =
      go (latest_record_reply jobs file (among (decoded_latest file at).job given) at) refl
      (latest_from most jobs file ((decoded_latest file at).job ∷ given) (at + 8)) refl
      (sym (times_more most jobs file given at h) ∙ e)
    where
      go : (said : Reply LatestTime) → latest_record_reply jobs file (among (decoded_latest file at).job given) at ≡ said →
          (rest : Reply (List LatestTime)) → latest_from most jobs file ((decoded_latest file at).job ∷ given) (at + 8) ≡ rest →
          before (λ t. t) said rest ≡ answer found → First most jobs file given at found
      go (refused number place) f rest g q = absurd (answer_not (sym q))
      go (answer t) f (refused number place) g q = absurd (answer_not (sym q))
      go (answer t) f (answer others) g q =
          let i = latest_is jobs file _ at f in
          let z : t ∷ others ≡ found = cc in
          record { others = others; taken = f ∙ ap answer i; more = g; is = sym z ∙ ap (λ (x : LatestTime). x ∷ others) i }

  pub none_of : latest_here file at ≡ false → found ≡ []
  none_of h = let z : answer [] ≡ answer found = sym (times_end most jobs file given at h) ∙ e in cc

-- the latest times of a reading that is not refused pass the checks
pub good_from : (most jobs : ℕ) (file given : List ℕ) (at : ℕ) (found : List LatestTime) →
    latest_from most jobs file given at ≡ answer found → Good jobs given found
unfolding latest_from
good_from zero jobs file given at found e = absurd (answer_not (sym e))
good_from (suc most) jobs file given at found e =
    go (latest_here file at) refl (λ others f. good_from most jobs file ((decoded_latest file at).job ∷ given) (at + 8) others f)
  where
    go : (t : Bool) → latest_here file at ≡ t →
        ((others : List LatestTime) → latest_from most jobs file ((decoded_latest file at).job ∷ given) (at + 8) ≡ answer others →
        Good jobs ((decoded_latest file at).job ∷ given) others) →
        Good jobs given found
    go true h f =
        let s = first_of most jobs file given at found e h in
        rw s.is
        (latest_in_book jobs file _ at s.taken, latest_in_bounds jobs file _ at s.taken, latest_first jobs file _ at s.taken, f s.others s.more)
    go false h f = rw (none_of most jobs file given at found e h) tt

-- the records of latest times are in the file
times_inside : (most jobs : ℕ) (file given : List ℕ) (at : ℕ) (found : List LatestTime) → at ≤ length file →
    latest_from most jobs file given at ≡ answer found → at + length found * 8 ≤ length file
unfolding latest_from
times_inside zero jobs file given at found h e = absurd (answer_not (sym e))
times_inside (suc most) jobs file given at found h e =
    go (latest_here file at) refl (λ others k f. times_inside most jobs file ((decoded_latest file at).job ∷ given) (at + 8) others k f)
  where
    go : (t : Bool) → latest_here file at ≡ t →
        ((others : List LatestTime) → at + 8 ≤ length file →
        latest_from most jobs file ((decoded_latest file at).job ∷ given) (at + 8) ≡ answer others → at + 8 + length others * 8 ≤ length file) →
        at + length found * 8 ≤ length file
    go true q f =
        let s = first_of most jobs file given at found e q in
        omega (arith, ap length s.is, f s.others (latest_in_file jobs file _ at s.taken) s.more)
    go false q f = omega (arith, ap length (none_of most jobs file given at found e q))

pub begin_inside : (form : Form) (file : List ℕ) → Listed form file → rules_begin file ≤ length file
unfolding end_of
begin_inside form file l = times_inside (most_jobs + 1) (word file 2) file [] 4 (read (latest_records file)) (listed_long form file l) l.times

-- each latest time stored in its job's place
unfoldable pub put : List LatestTime → List ℤ → List ℤ
put [] times = times
put (t ∷ more) times = put more (set times t.job t.minute)

-- the list keeps its length
put_length : (found : List LatestTime) (times : List ℤ) → length (put found times) ≡ length times
unfolding put
put_length [] times = refl
put_length (t ∷ more) times = put_length more (set times t.job t.minute) ∙ length-set times t.job t.minute

-- one latest time stored, a job's first: what a place has, and what the others still put there
module _ (job : ℕ) (t : LatestTime) (given : List ℕ) (times : List ℤ)
    (fresh : among job given ≡ false → get_or times job (pos 0) ≡ pos 0) where
  fresh_next : among job (t.job ∷ given) ≡ false → get_or (set times t.job t.minute) job (pos 0) ≡ pos 0
  unfolding among
  fresh_next e = go (ℕ_discrete job t.job) e
    where
      go : Dec (job ≡ t.job) → (eqb job t.job || among job given) ≡ false → get_or (set times t.job t.minute) job (pos 0) ≡ pos 0
      go (yes q) f = clash (rw (eq-eqb job t.job q) refl) f
      go (no q) f = get_or-set_other times t.job job t.minute (pos 0) q ∙ fresh (rw (ne_eqb job t.job q) at f)

  put_next : t.job < length times → among t.job given ≡ false → (more : List LatestTime) →
      cond (among job (t.job ∷ given)) (get_or (set times t.job t.minute) job (pos 0)) (minute_of job more)
      ≡ cond (among job given) (get_or times job (pos 0)) (minute_of job (t ∷ more))
  unfolding among minute_of
  put_next below new more = go (ℕ_discrete job t.job)
    where
      go : Dec (job ≡ t.job) →
          cond (eqb job t.job || among job given) (get_or (set times t.job t.minute) job (pos 0)) (minute_of job more)
          ≡ cond (among job given) (get_or times job (pos 0)) (cond (eqb t.job job) t.minute (minute_of job more))
      go (yes q) = rw (q, eq-eqb t.job t.job refl, new) (get_or-set_same times t.job t.minute (pos 0) below)
      go (no q) = rw (ne_eqb job t.job q, get_or-set_other times t.job job t.minute (pos 0) q, ne_eqb t.job job (λ r. q (sym r))) refl

-- A place has its job's minute at the end, or what it had, where the job is among those given.
put_at : (jobs : ℕ) (given : List ℕ) (found : List LatestTime) (times : List ℤ) (job : ℕ) → Good jobs given found → length times ≡ jobs →
    (among job given ≡ false → get_or times job (pos 0) ≡ pos 0) →
    get_or (put found times) job (pos 0) ≡ cond (among job given) (get_or times job (pos 0)) (minute_of job found)
unfolding put minute_of
put_at jobs given [] times job g size fresh = go (among job given) refl
  where
    go : (t : Bool) → among job given ≡ t → get_or times job (pos 0) ≡ cond t (get_or times job (pos 0)) (pos 0)
    go true e = refl
    go false e = fresh e
put_at jobs given (t ∷ more) times job g size fresh =
    put_at jobs (t.job ∷ given) more (set times t.job t.minute) job g.3 (length-set times t.job t.minute ∙ size)
    (fresh_next job t given times fresh)
    ∙ put_next job t given times fresh (rw size g.0) g.2 more

-- the minute at a place of the list of minutes
minutes_at : (job jobs i : ℕ) (found : List LatestTime) → i < jobs →
    get_or (minutes_from job jobs found) i (pos 0) ≡ minute_of (job + i) found
unfolding minutes_from
minutes_at job zero i found h = absurd (omega arith)
minutes_at job (suc jobs) zero found h = ap (λ (j : ℕ). minute_of j found) (omega arith)
minutes_at job (suc jobs) (suc i) found h =
    minutes_at (job + 1) jobs i found (omega arith) ∙ ap (λ (j : ℕ). minute_of j found) (omega arith)

-- Stored one after the other over zeros, the latest times make the list of each job's minute.
put_all : (jobs : ℕ) (found : List LatestTime) → Good jobs [] found → put found (replicate jobs (pos 0)) ≡ minutes_from 0 jobs found
unfolding among
put_all jobs found g =
    ext_get_or (pos 0) (put found (replicate jobs (pos 0))) (minutes_from 0 jobs found) (size ∙ sym (minutes_length 0 jobs found))
    (λ i h. same i (omega (arith, size)))
  where
    size : length (put found (replicate jobs (pos 0))) ≡ jobs
    size = put_length found (replicate jobs (pos 0)) ∙ length-replicate jobs (pos 0)

    same : (i : ℕ) → i < jobs → get_or (put found (replicate jobs (pos 0))) i (pos 0) ≡ get_or (minutes_from 0 jobs found) i (pos 0)
    same i h =
        put_at jobs [] found (replicate jobs (pos 0)) i g (length-replicate jobs (pos 0)) (λ e. get_or-replicate jobs i (pos 0) (pos 0) h)
        ∙ ap (λ (j : ℕ). minute_of j found) (omega arith) ∙ sym (minutes_at 0 jobs i found h)

-- The latest times before byte `at` stand in their places; those from there on make the list that of the file.
pub record Filled (file : List ℕ) (at : ℕ) (times : List ℤ) : Type 0 where
  pub given : List ℕ
  pub most : ℕ
  pub found : List LatestTime
  pub low : at ≤ length file
  pub size : length times ≡ word file 2
  pub reads : latest_from most (word file 2) file given at ≡ answer found
  pub rest : put found times ≡ latest_of_file file

pub filled_none : (form : Form) (file : List ℕ) {times : List ℤ} → Listed form file → times ≡ replicate (word file 2) (pos 0) → Filled file 4 times
unfolding latest_of_file
filled_none form file l e =
    record {
      given = [];
      most = most_jobs + 1;
      found = read (latest_records file);
      low = listed_long form file l;
      size = rw e (length-replicate (word file 2) (pos 0));
      reads = l.times;
      rest =
          rw e
          (put_all (word file 2) (read (latest_records file)) (good_from (most_jobs + 1) (word file 2) file [] 4 (read (latest_records file)) l.times));
    }

-- a turn of the loop: the record is in the file, its job in the list, and storing its minute goes on from the next
pub record Turn (file : List ℕ) (at : ℕ) (times : List ℤ) : Type 0 where
  pub inside : at + 8 ≤ length file
  pub below : (decoded_latest file at).job < length times
  pub next : {job : ℕ} {minute : ℤ} → job ≡ (decoded_latest file at).job → minute ≡ (decoded_latest file at).minute →
      Filled file (at + 8) (set times job minute)

module _ {file : List ℕ} {at : ℕ} {times : List ℤ} (s : Filled file at times) where
  pub turn : latest_here file at ≡ true → Turn file at times
  unfolding put latest_from
  turn h = go s.most s.reads
    where
      jobs : ℕ
      jobs = word file 2

      go : (most : ℕ) → latest_from most jobs file s.given at ≡ answer s.found → Turn file at times
      go zero e = absurd (answer_not (sym e))
      go (suc most) e =
          let f = first_of most jobs file s.given at s.found e h in
          let inside = latest_in_file jobs file _ at f.taken in
          record {
            inside = inside;
            below = rw s.size (latest_in_book jobs file _ at f.taken);
            next = λ {job} {minute} p q.
                record {
                  given = (decoded_latest file at).job ∷ s.given;
                  most = most;
                  found = f.others;
                  low = inside;
                  size = length-set times job minute ∙ s.size;
                  reads = f.more;
                  rest = rw (p, q) (ap (λ (l : List LatestTime). put l times) (sym f.is) ∙ s.rest);
                };
          }

  pub filled_all : latest_here file at ≡ false → times ≡ latest_of_file file
  unfolding put latest_from
  filled_all h = go s.most s.reads
    where
      go : (most : ℕ) → latest_from most (word file 2) file s.given at ≡ answer s.found → times ≡ latest_of_file file
      go zero e = absurd (answer_not (sym e))
      go (suc most) e = sym (ap (λ (l : List LatestTime). put l times) (none_of most (word file 2) file s.given at s.found e h)) ∙ s.rest
