-- The latest times of a book's file, record by record. Assumes nothing.
use mathlib.Core.Path.{◌≡◌, refl, sym, ap, ◌∙◌}
use mathlib.Core.Bool.{Bool, true, false, cond, ◌||◌}
use mathlib.Core.List.{List, [], ◌∷◌}
use Prim.Native.Nat.{ℕ, zero, suc, ◌+◌, ◌<◌, ◌≤◌}
use native.Mathlib.Omega.{arith}
use native.Mathlib.Decide.{ℕ_discrete}
use borrow.Author.Tests.{eq-eqb, ne_eqb, lt-ltb, le-ltb, ltb-false, le-leb, lt-leb, leb-false}
use lib.Dec.{eqb, leb, ltb}
use lib.ListN.{length, get_or, set, replicate}
use Rattle.std.proofs.Common.{get_or-set_same, get_or-set_other}
use Rattle.maxatom.specs.Book.{most_jobs, Each}
use Rattle.maxatom.proofs.Choose.{cond_yes, cond_no}
use Rattle.derivation.specs.Refusals.{Reply, refused, answer, accepts, Check, check, reply, latest_outside}
use Rattle.derivation.proofs.Checks.{Passes, says, skips, passed, accepting}
use Rattle.derivation.specs.Faults.{number_of}
use Rattle.derivation.specs.declared.Fault.{Fault}
use Rattle.derivation.specs.declared.Fault.TheVariants.{LatestTime as Late}
use Rattle.std.specs.Prelude.{Result, Ok, Err, ⊤}
use Rattle.table.specs.Faults.{time_fault}
use Rattle.bookfile.specs.declared.reading.LatestTime.{LatestTime}
use Rattle.bookfile.specs.Kinds.{decoded_latest, among}
use Rattle.bookfile.specs.Reading.{latest_here, latest_record_checks, latest_record_reply, before, latest_from}
use Rattle.bookfile.specs.Inner.{ended}

-- what the check of a latest time says, by whether it is outside its bounds
abbrev said_by : Bool → Result ⊤ Fault
said_by t = cond t (Err Late) (Ok tt)

-- the reply on a latest time's record, check by check
module _ (jobs : ℕ) (file : List ℕ) (again : Bool) (at : ℕ) where
  abbrev said : Reply LatestTime
  said = latest_record_reply jobs file again at

  abbrev time : LatestTime
  time = decoded_latest file at

  abbrev second : List Check
  second = check again 9 at ∷ []

  abbrev minute : List Check
  minute = check (latest_outside time.minute) 8 at ∷ second

  abbrev job : List Check
  job = check (leb jobs time.job) 6 at ∷ minute

  pub latest_cut : length file < at + 8 → said ≡ refused 1 at
  unfolding latest_record_reply latest_record_checks
  latest_cut h = says time (check (ltb (length file) (at + 8)) 1 at) job (lt-ltb _ _ h)

  module _ (h : at + 8 ≤ length file) where
    whole : said ≡ reply job time
    unfolding latest_record_reply latest_record_checks
    whole = skips time (check (ltb (length file) (at + 8)) 1 at) job (le-ltb _ _ h)

    pub latest_job : jobs ≤ time.job → said ≡ refused 6 at
    latest_job l = whole ∙ says time (check (leb jobs time.job) 6 at) minute (le-leb jobs time.job l)

    module _ (l : time.job < jobs) where
      of_job : said ≡ reply minute time
      of_job = whole ∙ skips time (check (leb jobs time.job) 6 at) minute (lt-leb jobs time.job l)

      pub latest_minute : {fault : Fault} → time_fault time.minute ≡ Err fault → said ≡ refused (number_of fault) at
      unfolding reply time_fault
      latest_minute {fault} e = of_job ∙ go (latest_outside time.minute) e
        where
          go : (t : Bool) → said_by t ≡ Err fault →
              cond t (refused 8 at) (reply second time) ≡ refused (number_of fault) at
          go true f = let g : Late ≡ fault = cc in ap (λ (x : Fault). refused (number_of x) at) g
          go false f = absurd (cc)

      module _ (o : time_fault time.minute ≡ Ok tt) where
        inside : said ≡ reply second time
        unfolding time_fault
        inside = of_job ∙ skips time (check (latest_outside time.minute) 8 at) second (go (latest_outside time.minute) o)
          where
            go : (t : Bool) → said_by t ≡ Ok tt → t ≡ false
            go true f = absurd (cc)
            go false f = refl

        pub latest_second : again ≡ true → said ≡ refused 9 at
        latest_second a = inside ∙ says time (check again 9 at) [] a

        pub latest_taken : again ≡ false → said ≡ answer time
        unfolding reply
        latest_taken a = inside ∙ skips time (check again 9 at) [] a

-- a record that is taken is in the file, its job in the book and its minute within the bounds, and it is the first for its job
module _ (jobs : ℕ) (file : List ℕ) (again : Bool) (at : ℕ) {t : LatestTime} (e : latest_record_reply jobs file again at ≡ answer t) where
  passes : Each Passes (latest_record_checks jobs file again at)
  unfolding accepts latest_record_reply
  passes = passed (latest_record_checks jobs file again at) (decoded_latest file at) (ap accepts e)

  pub latest_is : t ≡ decoded_latest file at
  unfolding latest_record_reply
  latest_is = let s = accepting (latest_record_checks jobs file again at) (decoded_latest file at) passes in cc

  pub latest_in_file : at + 8 ≤ length file
  unfolding latest_record_checks
  latest_in_file = ltb-false _ _ passes.0

  pub latest_in_book : t.job < jobs
  unfolding latest_record_checks
  latest_in_book = rw latest_is (leb-false _ _ passes.1.0)

  pub latest_in_bounds : latest_outside t.minute ≡ false
  unfolding latest_record_checks
  latest_in_bounds = rw latest_is passes.1.1.0

  pub latest_first : again ≡ false
  unfolding latest_record_checks
  latest_first = passes.1.1.1.0

-- the latest times from a byte on, where a record of one begins there, and where none does
module _ (most jobs : ℕ) (file given : List ℕ) (at : ℕ) where
  pub times_more : latest_here file at ≡ true →
      latest_from (suc most) jobs file given at
      ≡ before (λ t. t) (latest_record_reply jobs file (among (decoded_latest file at).job given) at)
      (latest_from most jobs file ((decoded_latest file at).job ∷ given) (at + 8))
  unfolding latest_from
  times_more h = cond_yes _ _ h

  pub times_end : latest_here file at ≡ false → latest_from (suc most) jobs file given at ≡ answer []
  unfolding latest_from
  times_end h = cond_no _ _ h

-- how many of the first n jobs are not among those given
unfoldable pub left : ℕ → List ℕ → ℕ
left zero given = 0
left (suc n) given = let rest = left n given in cond (among n given) rest (rest + 1)

pub left_all : (n : ℕ) → left n [] ≡ n
unfolding left among
left_all zero = refl
left_all (suc n) = omega (arith, left_all n)

left_same : (n job : ℕ) (given : List ℕ) → n ≤ job → left n (job ∷ given) ≡ left n given
unfolding left among
left_same zero job given h = refl
left_same (suc n) job given h =
    rw (ne_eqb n job (λ q. absurd (omega arith)), left_same n job given (omega arith))

-- with one of them given besides, they are one fewer
pub left_less : (n job : ℕ) (given : List ℕ) → job < n → among job given ≡ false → left n given ≡ left n (job ∷ given) + 1
unfolding left among
left_less zero job given h e = absurd (omega arith)
left_less (suc n) job given h e = go (ℕ_discrete n job) (λ q. left_less n job given q e)
  where
    same : (t : Bool) → left n given ≡ left n (job ∷ given) + 1 →
        cond t (left n given) (left n given + 1) ≡ cond t (left n (job ∷ given)) (left n (job ∷ given) + 1) + 1
    same true f = f
    same false f = omega arith

    go : Dec (n ≡ job) → (job < n → left n given ≡ left n (job ∷ given) + 1) → left (suc n) given ≡ left (suc n) (job ∷ given) + 1
    go (yes q) f = rw (q, e, eq-eqb job job refl) (rw (left_same job job given (omega arith)))
    go (no q) f = rw (ne_eqb n job q) (same (among n given) (f (omega arith)))

-- `seen` is true at just the places of the jobs given
pub record Seen (seen : List Bool) (given : List ℕ) : Type 0 where
  pub marks : (job : ℕ) → get_or seen job false ≡ among job given

seen_none : (n : ℕ) → Seen (replicate n false) []
unfolding among
seen_none n = record { marks = none n }
  where
    none : (n i : ℕ) → get_or (replicate n false) i false ≡ false
    none zero i = refl
    none (suc n) zero = refl
    none (suc n) (suc i) = none n i

seen_one : {seen : List Bool} {given : List ℕ} → Seen seen given → (job : ℕ) → job < length seen → Seen (set seen job true) (job ∷ given)
unfolding among
seen_one {seen} {given} s job h = record { marks = λ j. go j (ℕ_discrete j job) }
  where
    go : (j : ℕ) → Dec (j ≡ job) → get_or (set seen job true) j false ≡ (eqb j job || among j given)
    go j (yes q) = rw (q, eq-eqb job job refl) (get_or-set_same seen job true false h)
    go j (no q) = rw (ne_eqb j job q) (get_or-set_other seen job j true false q ∙ s.marks j)

-- The records of latest times before byte `at` are checked, and their jobs are seen; those from there on decide.
pub record Checking (jobs : ℕ) (file : List ℕ) (at : ℕ) (seen : List Bool) : Type 0 where
  pub given : List ℕ
  pub most : ℕ
  pub low : at ≤ length file
  pub enough : left jobs given < most
  pub marks : Seen seen given
  pub rest : ended at (latest_from most jobs file given at) ≡ ended 4 (latest_from (most_jobs + 1) jobs file [] 4)

pub checking_none : (jobs : ℕ) (file : List ℕ) → 4 ≤ length file → jobs ≤ most_jobs → Checking jobs file 4 (replicate 256 false)
checking_none jobs file h k =
    record { given = []; most = most_jobs + 1; low = h; enough = omega (arith, left_all jobs); marks = seen_none 256; rest = refl }

module _ {jobs : ℕ} {file : List ℕ} {at : ℕ} {seen : List Bool} (s : Checking jobs file at seen) (here : latest_here file at ≡ true) where
  abbrev pub its_job : ℕ
  its_job = (decoded_latest file at).job

  abbrev pub all : Reply ℕ
  all = ended 4 (latest_from (most_jobs + 1) jobs file [] 4)

  -- one look fewer
  record Fewer : Type 0 where
    most : ℕ
    is : s.most ≡ suc most

  fewer : Fewer
  fewer = go s.most refl s.enough
    where
      go : (n : ℕ) → s.most ≡ n → left jobs s.given < n → Fewer
      go zero e h = absurd (omega arith)
      go (suc n) e h = record { most = n; is = e }

  abbrev later : Reply (List LatestTime)
  later = latest_from fewer.most jobs file (its_job ∷ s.given) (at + 8)

  by : (said : Reply LatestTime) → latest_record_reply jobs file (get_or seen its_job false) at ≡ said →
      ended at (before (λ t. t) said later) ≡ all
  by said e =
      let f : latest_record_reply jobs file (among its_job s.given) at ≡ said = rw (← s.marks.marks its_job) e in
      sym
      (ap (λ (n : ℕ). ended at (latest_from n jobs file s.given at)) fewer.is
      ∙ ap (ended at) (times_more fewer.most jobs file s.given at here)
      ∙ ap (λ (r : Reply LatestTime). ended at (before (λ t. t) r later)) f)
      ∙ s.rest

  pub checking_not : {number place : ℕ} → latest_record_reply jobs file (get_or seen its_job false) at ≡ refused number place →
      refused number place ≡ all
  unfolding before ended
  checking_not {number} {place} e = by (refused number place) e

  module _ {t : LatestTime} (e : latest_record_reply jobs file (get_or seen its_job false) at ≡ answer t) (size : length seen ≡ 256)
      (few : jobs ≤ most_jobs) where
    pub checking_next : {job : ℕ} → job ≡ t.job → Checking jobs file (at + 8) (set seen job true)
    unfolding before ended
    checking_next q =
        let j : t.job ≡ its_job = ap (λ (x : LatestTime). x.job) (latest_is jobs file _ at e) in
        let below = latest_in_book jobs file _ at e in
        let new : among its_job s.given ≡ false = sym (s.marks.marks its_job) ∙ latest_first jobs file _ at e in
        record {
          given = its_job ∷ s.given;
          most = fewer.most;
          low = latest_in_file jobs file _ at e;
          enough = omega (arith, left_less jobs its_job s.given (omega arith) new, s.enough, fewer.is);
          marks = rw (q, j) (seen_one s.marks its_job (omega arith));
          rest = sym (go later) ∙ by (answer t) e;
        }
      where
        go : (said : Reply (List LatestTime)) → ended at (before (λ t. t) (answer t) said) ≡ ended (at + 8) said
        go (refused number place) = refl
        go (answer more) = ap answer (omega arith)

pub checking_all : {jobs : ℕ} {file : List ℕ} {at : ℕ} {seen : List Bool} → Checking jobs file at seen → latest_here file at ≡ false →
    answer at ≡ ended 4 (latest_from (most_jobs + 1) jobs file [] 4)
unfolding ended
checking_all {jobs} {file} {at} {seen} s here = go s.most refl s.enough
  where
    go : (n : ℕ) → s.most ≡ n → left jobs s.given < n → answer at ≡ ended 4 (latest_from (most_jobs + 1) jobs file [] 4)
    go zero e h = absurd (omega arith)
    go (suc n) e h =
        ap answer (omega arith)
        ∙ sym (ap (λ (m : ℕ). ended at (latest_from m jobs file s.given at)) e ∙ ap (ended at) (times_end n jobs file s.given at here))
        ∙ s.rest

-- what the code says of a latest time's record, and of all of them
pub ruleset latests = (latest_cut, latest_job, latest_minute, latest_second, latest_taken)

pub ruleset checks = (checking_none, checking_not, checking_all)
