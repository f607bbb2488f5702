-- A plan is unique and has a job at its own latest time. Assumes nothing.
use mathlib.Core.Path.{◌≡◌, refl, sym, ap, ◌∙◌}
use mathlib.Core.Logic.{◌⊎◌, inl, inr, ⊎_elim}
use mathlib.Core.Bool.{Bool, true, false}
use mathlib.Core.List.{List, [], ◌∷◌, map}
use Prim.Native.Nat.{ℕ, zero, suc, ◌<◌}
use native.Mathlib.Omega.{arith}
use lib.ListN.{length, length-map}
use lib.Seq.{ext_get_or}
use lib.IntN.{ℤ, pos, ◌+ℤ◌}
use lib.Signed.{◌<ℤ◌, lt_z}
use Rattle.maxatom.specs.Rule.{time_at}
use Rattle.maxatom.specs.Book.{Book, Each, AllSatisfied, Model, Under, Plan}
use Rattle.maxatom.specs.Accepted.{InBook, Accepted}
use Rattle.maxatom.specs.declared.Rule.{Rule}
use Rattle.maxatom.specs.Clauses.{Assignment, greatest, clauses_of}
use Rattle.maxatom.proofs.Integers.{up, dn, le_read, le_make, lt_read, eq_make, add_parts, lt_true, lt_false}
use Rattle.maxatom.proofs.Clauses.{KeepsAll, lemma_1}
use Rattle.maxatom.proofs.Rules.{keeps_all, kept}

pub plan_unique : {b : Book} {p q : List ℤ} → Plan b p → Plan b q → p ≡ q
plan_unique {p = p} {q = q} a c =
    ext_get_or (pos 0) p q (a.model.size ∙ sym c.model.size)
    (λ i h. eq_make (omega (arith, le_read (a.above_all q c.model c.not_late i), le_read (c.above_all p a.model a.not_late i))))

-- an assignment that keeps all, and agrees with the times at the jobs of the book
kept_by : {jobs : ℕ} (rules : List Rule) (s : Assignment) (times : List ℤ) → Each (InBook jobs) rules →
    ((job : ℕ) → job < jobs → time_at times job ≡ s job) → KeepsAll s (clauses_of rules) → AllSatisfied rules times
unfolding greatest
kept_by [] s times b e k = tt
kept_by (r ∷ rules) s times b e k =
    (kept r times (rw (e r.x b.0.first, e r.y b.0.second, e r.z b.0.third) k.0), kept_by rules s times b.1 e k.1)

shift_time : (d : ℤ) (times : List ℤ) (job : ℕ) → job < length times → time_at (map (λ t. t +ℤ d) times) job ≡ time_at times job +ℤ d
shift_time d [] job h = absurd (omega arith)
shift_time d (t ∷ times) zero h = refl
shift_time d (t ∷ times) (suc job) h = shift_time d times job (omega arith)

-- each time of a list is before the one in its place of the other
abbrev Before : List ℤ → List ℤ → Type 0
Before times latest = (job : ℕ) → job < length times → time_at times job <ℤ time_at latest job

-- a job at its latest time, or all before it
search_latest : (times latest : List ℤ) → length times ≡ length latest → Under times latest →
    ((job : ℕ) × (job < length times) × (time_at times job ≡ time_at latest job)) ⊎ Before times latest
search_latest [] latest e u = inr (λ job h. absurd (omega arith))
search_latest (t ∷ times) [] e u = absurd (omega arith)
search_latest (t ∷ times) (l ∷ latest) e u = go (lt_z t l) refl (search_latest times latest (omega arith) (λ job. u (suc job)))
  where
    go : (b : Bool) → lt_z t l ≡ b → ((job : ℕ) × (job < length times) × (time_at times job ≡ time_at latest job)) ⊎ Before times latest →
        ((job : ℕ) × (job < length (t ∷ times)) × (time_at (t ∷ times) job ≡ time_at (l ∷ latest) job)) ⊎ Before (t ∷ times) (l ∷ latest)
    go false q w = inl (0, omega arith, eq_make (omega (arith, le_read (u 0), le_read (lt_false t l q))))
    go true q (inl w) = inl (suc w.0, omega (arith, w.1), w.2)
    go true q (inr w) = inr first
      where
        first : Before (t ∷ times) (l ∷ latest)
        first zero h = lt_true q
        first (suc job) h = w job (omega arith)

one_later : (times latest : List ℤ) → length times ≡ length latest → Before times latest → Under (map (λ t. t +ℤ pos 1) times) latest
one_later [] [] e h job = le_make (omega arith)
one_later [] (l ∷ latest) e h job = absurd (omega arith)
one_later (t ∷ times) [] e h job = absurd (omega arith)
one_later (t ∷ times) (l ∷ latest) e h zero = le_make (omega (arith, lt_read (h 0 (omega arith)), add_parts t (pos 1)))
one_later (t ∷ times) (l ∷ latest) e h (suc job) = one_later times latest (omega arith) (λ i g. h (suc i) (omega arith)) job

pub plan_at_latest : {b : Book} → Accepted b → {p : List ℤ} → Plan b p → (job : ℕ) × (job < b.jobs) × (time_at p job ≡ time_at b.latest job)
plan_at_latest {b = b} acc {p = p} plan =
    ⊎_elim (λ w. (w.0, rw (← size) w.1, w.2)) (λ w. absurd (later w)) (search_latest p b.latest same plan.not_late)
  where
    size : length p ≡ b.jobs
    size = plan.model.size

    same : length p ≡ length b.latest
    same = size ∙ sym acc.size

    q : List ℤ
    q = map (λ t. t +ℤ pos 1) p

    at : (job : ℕ) → job < b.jobs → time_at q job ≡ time_at p job +ℤ pos 1
    at job h = shift_time (pos 1) p job (omega arith)

    later : Before p b.latest → ⊥
    later e =
        let m : Model b q = record {
          size = length-map p _ ∙ size;
          keeps = kept_by b.rules (λ job. time_at p job +ℤ pos 1) q acc.rules_in at (lemma_1 (clauses_of b.rules) (time_at p) (pos 1) (keeps_all b.rules p plan.model.keeps));
        } in
        omega (arith, le_read (plan.above_all q m (one_later p b.latest same e) 0), add_parts (time_at p 0) (pos 1), ap up (at 0 acc.some), ap dn (at 0 acc.some))
