-- The refusals: which check is the first to fail, and that a book's checks leave over just the books within the bounds that have no
-- impossible rule. Assumes nothing.
use mathlib.Core.Path.{◌≡◌, refl, ap, subst, ◌∙◌}
use mathlib.Core.Logic.{◌↔◌, ⊎_elim}
use mathlib.Core.Bool.{Bool, true, false, cond, ◌||◌}
use mathlib.Core.List.{List, [], ◌∷◌, ◌++◌, append-nil}
use Prim.Native.Nat.{ℕ, ◌+◌}
use native.Mathlib.Omega.{arith}
use lib.Dec.{eqb, leb, ltb}
use lib.ListN.{length}
use lib.IntN.{ℤ, pos}
use lib.Signed.{lt_z}
use borrow.Author.Tests.{leb-false, ltb-false, le-ltb, lt-leb, eqb-true, eq-eqb, ne_eqb, not-false}
use Rattle.maxatom.proofs.Lists.{each_join}
use Rattle.maxatom.specs.Book.{most_jobs, most_rules, most_minutes, Book, Each, minus}
use Rattle.maxatom.specs.Class.{Possible}
use Rattle.maxatom.specs.Accepted.{InBook, InTime, Accepted}
use Rattle.maxatom.specs.declared.Rule.{Rule}
use Rattle.maxatom.proofs.Choose.{cond_yes, cond_no, clash}
use Rattle.maxatom.proofs.Integers.{up, dn, le_read, le_make, lt_false, false_lt, abs_parts, one_part}
use Rattle.derivation.specs.Refusals.{refused, answer, accepts, Check, reply, verdict, job_outside, beyond, offset_outside, rule_checks, table_checks, latest_outside, time_checks, size_check, latest_checks, book_checks, NotRefused, times_checks}

abbrev pub Passes : Check → Type 0
Passes c = c.fails ≡ false

pub answer_not : {A : Type 0} {a : A} {number place : ℕ} → answer a ≡ refused number place → ⊥
answer_not e = let z : ◌≡◌ {A = ℕ} 0 1 = cc in omega arith

module _ {A : Type 0} (a : A) where
  -- the first check fails, or passes
  pub says : (c : Check) (checks : List Check) → c.fails ≡ true → reply (c ∷ checks) a ≡ refused c.number c.place
  unfolding reply
  says c checks e = cond_yes _ _ e

  pub skips : (c : Check) (checks : List Check) → c.fails ≡ false → reply (c ∷ checks) a ≡ reply checks a
  unfolding reply
  skips c checks e = cond_no _ _ e

  -- checks that all pass say nothing
  pub skips_all : (checks more : List Check) → Each Passes checks → reply (checks ++ more) a ≡ reply more a
  skips_all [] more e = refl
  skips_all (c ∷ checks) more e = skips c (checks ++ more) e.0 ∙ skips_all checks more e.1

pub neither : (p q : Bool) → (p || q) ≡ false → (p ≡ false) × (q ≡ false)
neither true q e = clash refl e
neither false q e = (refl, e)

pub neither_from : (p q : Bool) → p ≡ false → q ≡ false → (p || q) ≡ false
neither_from true q e f = clash refl e
neither_from false q e f = f

-- a rule's first two checks pass exactly for a rule within the bounds
pub rule_passes : (jobs : ℕ) (r : Rule) → InBook jobs r → (job_outside jobs r ≡ false) × (offset_outside r ≡ false)
unfolding job_outside beyond
rule_passes jobs r b = (
  rw (lt-leb jobs r.x b.first, lt-leb jobs r.y b.second, lt-leb jobs r.z b.third),
  rw (
    false_lt {a = r.k} {b = minus most_minutes} (le_make (omega (arith, abs_parts r.k, b.offset))),
    false_lt {a = pos most_minutes} {b = r.k} (le_make (omega (arith, abs_parts r.k, b.offset))),
  ),
)

pub rule_in_lem : (jobs : ℕ) (r : Rule) → job_outside jobs r ≡ false → offset_outside r ≡ false → InBook jobs r
unfolding job_outside beyond
rule_in_lem jobs r j k =
    let (x, yz) = neither (leb jobs r.x) (leb jobs r.y || leb jobs r.z) j in
    let (y, z) = neither (leb jobs r.y) (leb jobs r.z) yz in
    let (low, high) = neither (lt_z r.k (minus most_minutes)) (lt_z (pos most_minutes) r.k) k in
    record {
      first = leb-false jobs r.x x;
      second = leb-false jobs r.y y;
      third = leb-false jobs r.z z;
      offset = ⊎_elim
          (λ (p : up r.k ≡ 0). omega (arith, abs_parts r.k, le_read (lt_false r.k (minus most_minutes) low)))
          (λ (p : dn r.k ≡ 0). omega (arith, abs_parts r.k, le_read (lt_false (pos most_minutes) r.k high))) (one_part r.k);
    }

rules_pass : (jobs at : ℕ) (rules : List Rule) → Each (InBook jobs) rules → Each Possible rules → Each Passes (rule_checks jobs at rules)
unfolding rule_checks
rules_pass jobs at [] e f = tt
rules_pass jobs at (r ∷ rules) e f = let p = rule_passes jobs r e.0 in (p.0, (p.1, (f.0, rules_pass jobs (at + 1) rules e.1 f.1)))

pub table_passes : {b : Book} → Accepted b → Each Passes (table_checks b.jobs b.rules)
unfolding table_checks
table_passes {b = b} a = (
  rw (le-ltb b.jobs 1 a.some, le-ltb most_jobs b.jobs a.few),
  (le-ltb most_rules (length b.rules) a.short, rules_pass b.jobs 0 b.rules a.rules_in a.possible),
)

-- a latest time's check passes exactly for one within the bounds
time_passes : {t : ℤ} → InTime t → latest_outside t ≡ false
unfolding latest_outside
time_passes b = rw (false_lt b.lowest, false_lt b.highest)

pub in_time : (t : ℤ) → latest_outside t ≡ false → InTime t
unfolding latest_outside
in_time t e =
    let (low, high) = neither (lt_z t (minus most_minutes)) (lt_z (pos 0) t) e in
    record { lowest = lt_false t (minus most_minutes) low; highest = lt_false (pos 0) t high }

times_in : (at : ℕ) (latest : List ℤ) → Each InTime latest → Each Passes (time_checks at latest)
unfolding time_checks
times_in at [] e = tt
times_in at (t ∷ latest) e = (time_passes e.0, times_in (at + 1) latest e.1)

times_all : (at : ℕ) (latest : List ℤ) → Each Passes (time_checks at latest) → Each InTime latest
unfolding time_checks
times_all at [] e = tt
times_all at (t ∷ latest) e = (in_time t e.0, times_all (at + 1) latest e.1)

-- the checks of a list, by its length
pub listed : (jobs : ℕ) (latest : List ℤ) → length latest ≡ jobs → latest_checks jobs latest ≡ time_checks 0 latest
unfolding latest_checks
listed jobs latest e = cond_yes _ _ (eq-eqb (length latest) jobs e)

pub unlisted : (jobs : ℕ) (latest : List ℤ) → (length latest ≡ jobs → ⊥) → latest_checks jobs latest ≡ size_check jobs latest ∷ []
unfolding latest_checks
unlisted jobs latest e = cond_no _ _ (ne_eqb (length latest) jobs e)

pub latest_passes : (jobs : ℕ) (latest : List ℤ) → length latest ≡ jobs → Each InTime latest → Each Passes (latest_checks jobs latest)
latest_passes jobs latest e f = rw (listed jobs latest e) (times_in 0 latest f)

pub latest_all : (jobs : ℕ) (latest : List ℤ) → Each Passes (latest_checks jobs latest) → (length latest ≡ jobs) × Each InTime latest
unfolding latest_checks
latest_all jobs latest p = go (eqb (length latest) jobs) refl p
  where
    go : (t : Bool) → eqb (length latest) jobs ≡ t → Each Passes (cond t (time_checks 0 latest) (size_check jobs latest ∷ [])) →
        (length latest ≡ jobs) × Each InTime latest
    go true e q = (eqb-true (length latest) jobs e, times_all 0 latest q)
    go false e q = clash (rw e) q.0

pub each_left : {A : Type 0} (P : A → Type 0) (l m : List A) → Each P (l ++ m) → Each P l × Each P m
each_left P [] m p = (tt, p)
each_left P (a ∷ l) m p = let q = each_left P l m p.1 in ((p.0, q.0), q.1)

pub book_passes : {b : Book} → Accepted b → Each Passes (book_checks b)
unfolding book_checks
book_passes {b = b} a = each_join Passes (table_checks b.jobs b.rules) _ (table_passes a) (latest_passes b.jobs b.latest a.size a.latest_in)

-- a book with as many times as jobs
pub times_pass : {b : Book} (times : List ℤ) → Accepted b → length times ≡ b.jobs → Each Passes (times_checks b times)
unfolding times_checks
times_pass {b = b} times a e = each_join Passes (book_checks b) _ (book_passes a) (rw (eq-eqb (length times) b.jobs e), tt)

rules_all : (jobs at : ℕ) (rules : List Rule) → Each Passes (rule_checks jobs at rules) → Each (InBook jobs) rules × Each Possible rules
unfolding rule_checks
rules_all jobs at [] e = (tt, tt)
rules_all jobs at (r ∷ rules) e =
    let (within, possible) = rules_all jobs (at + 1) rules e.1.1.1 in ((rule_in_lem jobs r e.0 e.1.0, within), (e.1.1.0, possible))

-- an accepting reply has passed every check
pub passed : {A : Type 0} (checks : List Check) (a : A) → accepts (reply checks a) ≡ true → Each Passes checks
unfolding reply accepts
passed [] a e = tt
passed (c ∷ checks) a e = go c.fails refl (λ q. passed checks a q) e
  where
    go : (b : Bool) → c.fails ≡ b → (accepts (reply checks a) ≡ true → Each (λ x. x.fails ≡ false) checks) →
        accepts (cond b (refused c.number c.place) (reply checks a)) ≡ true → Each (λ x. x.fails ≡ false) (c ∷ checks)
    go true p f q = clash q refl
    go false p f q = (p, f q)

pub accepting : {A : Type 0} (checks : List Check) (a : A) → Each Passes checks → reply checks a ≡ answer a
unfolding reply
accepting [] a e = refl
accepting (c ∷ checks) a e = cond_no _ _ e.0 ∙ accepting checks a e.1

-- two answers under the same checks, which are the same where nothing is refused
pub same_where : {A : Type 0} (checks : List Check) (a b : A) → (verdict checks ≡ answer tt → a ≡ b) → reply checks a ≡ reply checks b
unfolding reply
same_where [] a b h = ap answer (h refl)
same_where {A = A} (c ∷ checks) a b h = go c.fails h (λ k. same_where checks a b k)
  where
    go : (t : Bool) → (cond t (refused c.number c.place) (verdict checks) ≡ answer tt → a ≡ b) → ((verdict checks ≡ answer tt → a ≡ b) → reply checks a ≡ reply checks b) →
        cond t (refused c.number c.place) (reply checks a) ≡ cond t (refused c.number c.place) (reply checks b)
    go true k f = refl
    go false k f = f k

-- the checks leave over just the books within the bounds that have no impossible rule
pub accepted : (b : Book) → Each Passes (book_checks b) → Accepted b
unfolding book_checks table_checks
accepted b e =
    let (p, l) = each_left Passes (table_checks b.jobs b.rules) _ e in
    let (few, many) = neither (ltb b.jobs 1) (ltb most_jobs b.jobs) p.0 in
    let (size, latest) = latest_all b.jobs b.latest l in
    let (within, possible) = rules_all b.jobs 0 b.rules p.1.1 in
    record {
      some = ltb-false b.jobs 1 few;
      few = ltb-false most_jobs b.jobs many;
      short = ltb-false most_rules (length b.rules) p.1.0;
      rules_in = within;
      possible = possible;
      size = size;
      latest_in = latest;
    }

pub accepted_iff : (b : Book) → NotRefused b ↔ Accepted b
unfolding accepts
accepted_iff b = ((λ e. accepted b (passed (book_checks b) tt (ap accepts e))), (λ a. accepting (book_checks b) tt (book_passes a)))

-- a list of checks, with more behind it: its own refusal, or what the others say
module _ {A B : Type 0} (a : A) (b : B) where
  pub refused_append : (checks more : List Check) {number place : ℕ} → reply checks a ≡ refused number place → reply (checks ++ more) b ≡ refused number place
  unfolding reply
  refused_append [] more e = absurd (answer_not e)
  refused_append (c ∷ checks) more {number = n} {place = p} e = go c.fails (λ f. refused_append checks more f) e
    where
      go : (t : Bool) → (reply checks a ≡ refused n p → reply (checks ++ more) b ≡ refused n p) →
          cond t (refused c.number c.place) (reply checks a) ≡ refused n p → cond t (refused c.number c.place) (reply (checks ++ more) b) ≡ refused n p
      go true f q = cc
      go false f q = f q

  -- a refusal does not depend on the answer
  pub refused_same : (checks : List Check) {number place : ℕ} → reply checks a ≡ refused number place → reply checks b ≡ refused number place
  refused_same checks {number = n} {place = p} e = subst (λ (l : List Check). reply l b ≡ refused n p) (append-nil checks) (refused_append checks [] e)

  pub answered_same : (checks : List Check) → reply checks a ≡ answer a → reply checks b ≡ answer b
  unfolding accepts
  answered_same checks e = accepting checks b (passed checks a (ap accepts e))

  pub answered_append : (checks more : List Check) → reply checks a ≡ answer a → reply (checks ++ more) b ≡ reply more b
  unfolding accepts
  answered_append checks more e = skips_all b checks more (passed checks a (ap accepts e))

-- and back
pub times_all_pass : (b : Book) (times : List ℤ) → Each Passes (times_checks b times) → Accepted b × (length times ≡ b.jobs)
unfolding times_checks
times_all_pass b times e =
    let p = each_left Passes (book_checks b) _ e in
    (accepted b p.0, eqb-true (length times) b.jobs (not-false _ p.1.0))

pub times_accepted : {A : Type 0} (a : A) (b : Book) (times : List ℤ) → reply (times_checks b times) a ≡ answer a → Accepted b × (length times ≡ b.jobs)
unfolding accepts
times_accepted a b times e = times_all_pass b times (passed (times_checks b times) a (ap accepts e))
