-- The rules of document 01 as clauses of two arms with one offset, and a book as what derivations start from. Assumes nothing.
use mathlib.Core.Path.{◌≡◌, refl, sym}
use mathlib.Core.Logic.{⊎_elim}
use mathlib.Core.Bool.{Bool, true, false, cond}
use mathlib.Core.List.{List, [], ◌∷◌}
use Prim.Native.Nat.{ℕ, zero, suc, ◌+◌, ◌*◌, ◌<◌}
use native.Mathlib.Nat.{zero-mul, suc-mul}
use native.Mathlib.Omega.{arith}
use lib.ListN.{length, get_or, replicate}
use lib.IntN.{ℤ, pos, neg_ℤ, ◌+ℤ◌, nat_abs}
use lib.Signed.{◌≤ℤ◌, lt_z}
use Rattle.maxatom.specs.Rule.{time_at, max_z, left_side, satisfied}
use Rattle.maxatom.specs.Book.{Book, zeros, Each, AllSatisfied, total, minus, smallest, floor}
use Rattle.maxatom.specs.Accepted.{InBook, Accepted}
use Rattle.maxatom.specs.declared.Rule.{Rule}
use Rattle.maxatom.specs.Clauses as Test
use Rattle.maxatom.specs.Clauses.{Clause, left_of, greatest, Keeps, clause_of, clauses_of}
use Rattle.maxatom.specs.Inner.{In, here, there}
use Rattle.maxatom.proofs.Integers.{up, dn, le_read, le_make, lt_read, eq_make, add_parts, neg_parts, abs_parts, minus_parts, off_parts, le_true, true_le, lt_true, lt_false, add_mono, max_cases, max_left, max_right, max_under}
use Rattle.maxatom.specs.Runs.{sum_by, room}
use Rattle.maxatom.proofs.Clauses.{KeepsAll, Weighed, none, more}
use Rattle.maxatom.proofs.Derivations.{Setting}
use Rattle.maxatom.proofs.Signed.{zero_minus}

max_add : (a b k : ℤ) → max_z (a +ℤ k) (b +ℤ k) ≡ max_z a b +ℤ k
max_add a b k =
    let m = max_z (a +ℤ k) (b +ℤ k) in
    let above : m ≤ℤ (max_z a b +ℤ k) = max_under _ _ _ (add_mono a (max_z a b) k (max_left a b)) (add_mono b (max_z a b) k (max_right a b)) in
    let below : (max_z a b +ℤ k) ≤ℤ m = ⊎_elim (λ h. rw h.0 (max_left (a +ℤ k) (b +ℤ k))) (λ h. rw h.0 (max_right (a +ℤ k) (b +ℤ k))) (max_cases a b) in
    eq_make (omega (arith, le_read above, le_read below))

pub left_same : (r : Rule) (times : List ℤ) → left_of (time_at times) (clause_of r) ≡ left_side r times
unfolding greatest left_side
left_same r times = max_add (time_at times r.x) (time_at times r.y) r.k

pub kept_same : (r : Rule) (times : List ℤ) → Test.kept (clause_of r) times ≡ satisfied r times
unfolding Test.kept satisfied
kept_same r times = rw (left_same r times)

pub keeps : (r : Rule) (times : List ℤ) → satisfied r times ≡ true → Keeps (time_at times) (clause_of r)
unfolding satisfied
keeps r times e = rw (left_same r times) (le_true e)

pub kept : (r : Rule) (times : List ℤ) → Keeps (time_at times) (clause_of r) → satisfied r times ≡ true
unfolding satisfied
kept r times k = true_le (rw (left_same r times) at k)

pub keeps_all : (rules : List Rule) (times : List ℤ) → AllSatisfied rules times → KeepsAll (time_at times) (clauses_of rules)
keeps_all [] times e = tt
keeps_all (r ∷ rules) times e = (keeps r times e.0, keeps_all rules times e.1)

pub kept_all : (rules : List Rule) (times : List ℤ) → KeepsAll (time_at times) (clauses_of rules) → AllSatisfied rules times
kept_all [] times k = tt
kept_all (r ∷ rules) times k = (kept r times k.0, kept_all rules times k.1)

-- a rule's offset counts once, whatever its arms
pub weighed : (rules : List Rule) → Weighed (clauses_of rules) (total rules)
unfolding total
weighed [] = none
weighed (r ∷ rules) = more (nat_abs r.k) (omega (arith, abs_parts r.k), (omega (arith, abs_parts r.k), tt)) (weighed rules)

-- the rule at a number
pub in_clauses : (rules : List Rule) (i : ℕ) (d : Rule) → i < length rules → In (clause_of (get_or rules i d)) (clauses_of rules)
in_clauses [] i d h = absurd (omega arith)
in_clauses (r ∷ rules) zero d h = here
in_clauses (r ∷ rules) (suc i) d h = there (in_clauses rules i d (omega arith))

targets : (n : ℕ) (rules : List Rule) → Each (InBook n) rules → Each (λ (c : Clause). c.target < n) (clauses_of rules)
targets n [] e = tt
targets n (r ∷ rules) e = (e.0.third, targets n rules e.1)

-- no latest time is smaller than the smallest
pub smallest_least : (latest : List ℤ) (job : ℕ) → smallest latest ≤ℤ time_at latest job
unfolding smallest
smallest_least [] job = le_make (omega arith)
smallest_least (t ∷ latest) job = go (lt_z t (smallest latest)) refl job (λ i. smallest_least latest i)
  where
    go : (b : Bool) → lt_z t (smallest latest) ≡ b → (job : ℕ) → ((i : ℕ) → smallest latest ≤ℤ time_at latest i) →
        cond b t (smallest latest) ≤ℤ time_at (t ∷ latest) job
    go true e zero f = le_make (omega arith)
    go true e (suc job) f = le_make (omega (arith, lt_read {a = t} (lt_true e), le_read (f job)))
    go false e zero f = lt_false t (smallest latest) e
    go false e (suc job) f = f job

-- it is one of them, or zero
pub smallest_holds : (P : ℤ → Type 0) (latest : List ℤ) → P (pos 0) → Each P latest → P (smallest latest)
unfolding smallest
smallest_holds P [] z e = z
smallest_holds P (t ∷ latest) z e = go (lt_z t (smallest latest)) (smallest_holds P latest z e.1)
  where
    go : (b : Bool) → P (smallest latest) → P (cond b t (smallest latest))
    go true h = e.0
    go false h = h

-- the floor is K below the smallest latest time
pub floor_parts : (b : Book) → up (floor b) + dn (smallest b.latest) + total b.rules ≡ up (smallest b.latest) + dn (floor b)
floor_parts b = omega (arith, add_parts (smallest b.latest) (neg_ℤ (pos (total b.rules))), neg_parts (pos (total b.rules)))

pub setting : {b : Book} → Accepted b → Setting (clauses_of b.rules) (floor b) b.latest
setting {b = b} a =
    record {
      total = total b.rules;
      weighed = weighed b.rules;
      targets = rw a.size (targets b.jobs b.rules a.rules_in);
      deep = λ job.
          le_make (omega (arith, floor_parts b, add_parts (floor b) (pos (total b.rules)), le_read (smallest_least b.latest job)));
    }

pub zero_time : (n job : ℕ) → time_at (replicate n (pos 0)) job ≡ pos 0
zero_time zero job = refl
zero_time (suc n) zero = refl
zero_time (suc n) (suc job) = zero_time n job

pub zero_smallest : (n : ℕ) → smallest (replicate n (pos 0)) ≡ pos 0
unfolding smallest
zero_smallest zero = refl
zero_smallest (suc n) = rw (zero_smallest n) refl

-- where every latest time is zero, the floor is −K
pub zero_floor : (n : ℕ) (rules : List Rule) → floor (zeros n rules) ≡ minus (total rules)
zero_floor n rules = rw (zero_smallest n) (zero_minus (pos (total rules)))

-- and the room above it n × K
pub zero_room : (n : ℕ) (rules : List Rule) → room (minus (total rules)) (replicate n (pos 0)) ≡ n * total rules
unfolding sum_by
zero_room zero rules = sym (zero-mul (total rules))
zero_room (suc n) rules =
    let k = total rules in
    omega (arith, zero_room n rules, suc-mul n k, off_parts (pos 0) (minus k) (le_make (omega (arith, minus_parts k))), minus_parts k)
