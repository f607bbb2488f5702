-- Clauses with any number of arms: max(v₁ + k₁, …) ≥ z. Lemmas 1 and 3 of the paper. Assumes nothing.
use mathlib.Core.Path.{◌≡◌}
use mathlib.Core.Logic.{⊎_elim}
use mathlib.Core.List.{List, [], ◌∷◌}
use Prim.Native.Nat.{ℕ, ◌+◌, ◌≤◌}
use native.Mathlib.Omega.{arith}
use lib.IntN.{ℤ, ◌+ℤ◌}
use lib.Signed.{◌≤ℤ◌}
use Rattle.maxatom.specs.Rule.{max_z}
use Rattle.maxatom.specs.Book.{Each}
use Rattle.maxatom.specs.Clauses.{Clause, Assignment, arm_time, greatest, left_of, Keeps}
use Rattle.maxatom.specs.Inner.{In, here, there}
use Rattle.maxatom.specs.declared.Arm.{Arm}
use Rattle.maxatom.proofs.Integers.{dn, le_read, le_make, add_parts, ≤ℤ-trans, add_mono, max_cases, max_left, max_right}
use Rattle.maxatom.proofs.Lists.{each_in, in_each}

abbrev pub KeepsAll : Assignment → List Clause → Type 0
KeepsAll t cs = Each (Keeps t) cs

-- s is nowhere later than t
abbrev pub Below : Assignment → Assignment → Type 0
Below s t = (job : ℕ) → s job ≤ℤ t job

-- each clause has a weight, and no arm of it lowers by more: the sum of the weights
pub data Weighed : List Clause → ℕ → Type 0 where
  none : Weighed [] 0
  more : {c : Clause} {cs : List Clause} {total : ℕ} (weight : ℕ) → Each (λ (a : Arm). dn a.offset ≤ weight) (c.first ∷ c.others) → Weighed cs total → Weighed (c ∷ cs) (weight + total)

-- no first arm of a clause lowers by more than the total
pub first_total : {cs : List Clause} {total : ℕ} → Weighed cs total → {c : Clause} → In c cs → dn c.first.offset ≤ total
first_total none i = elim i [ ]
first_total (more n e w) here = omega (arith, e.0)
first_total (more n e w) (there i) = omega (arith, first_total w i)

-- an arm that reaches what the left side reaches
pub record Reaching (t : Assignment) (a : Arm) (l : List Arm) (v : ℤ) : Type 0 where
  pub arm : Arm
  pub among : In arm (a ∷ l)
  pub reaches : v ≤ℤ arm_time t arm

pub reaching : (t : Assignment) (a : Arm) (l : List Arm) (v : ℤ) → v ≤ℤ greatest t a l → Reaching t a l v
unfolding greatest
reaching t a [] v h = record { arm = a; among = here; reaches = h }
reaching t a (b ∷ l) v h =
    ⊎_elim (λ m. record { arm = a; among = here; reaches = rw m.0 at h })
    (λ m. let r = reaching t b l v (rw m.0 at h) in record { arm = r.arm; among = there r.among; reaches = r.reaches })
    (max_cases (arm_time t a) (greatest t b l))

pub reached : (t : Assignment) (a : Arm) (l : List Arm) {b : Arm} → In b (a ∷ l) → arm_time t b ≤ℤ greatest t a l
unfolding greatest
reached t a [] here = le_make (omega arith)
reached t a [] (there i) = elim i [ ]
reached t a (b ∷ l) here = max_left (arm_time t a) (greatest t b l)
reached t a (b ∷ l) (there i) = ≤ℤ-trans (reached t b l i) (max_right (arm_time t a) (greatest t b l))

module _ (c : Clause) where
  keeping : (t : Assignment) → Keeps t c → Reaching t c.first c.others (t c.target)
  keeping t k = reaching t c.first c.others (t c.target) k

  -- an arm of s that reaches v, and is not later than that arm of t
  carried : (s t : Assignment) (v : ℤ) → v ≤ℤ left_of s c → ((a : Arm) → arm_time s a ≤ℤ arm_time t a) → v ≤ℤ left_of t c
  carried s t v h f =
      let r = reaching s c.first c.others v h in
      ≤ℤ-trans r.reaches (≤ℤ-trans (f r.arm) (reached t c.first c.others r.among))

  -- the left side is monotone
  pub left_mono : (s t : Assignment) → Below s t → left_of s c ≤ℤ left_of t c
  left_mono s t b = carried s t (left_of s c) (le_make (omega arith)) (λ a. add_mono (s a.job) (t a.job) a.offset (b a.job))

  shifted : (t : Assignment) (d : ℤ) → Keeps t c → Keeps (λ job. t job +ℤ d) c
  shifted t d k =
      let r = keeping t k in
      let a = r.arm in
      let t' : Assignment = λ job. t job +ℤ d in
      ≤ℤ-trans
      (le_make (omega (arith, le_read r.reaches, add_parts (t c.target) d, add_parts (t a.job) d, add_parts (t a.job) a.offset, add_parts (t a.job +ℤ d) a.offset)))
      (reached t' c.first c.others r.among)

  larger : (s t : Assignment) → Keeps s c → Keeps t c → Keeps (λ job. max_z (s job) (t job)) c
  larger s t p q =
      let m : Assignment = λ job. max_z (s job) (t job) in
      ⊎_elim
      (λ (h : (max_z (s c.target) (t c.target) ≡ s c.target) × (t c.target ≤ℤ s c.target)). rw h.0 (≤ℤ-trans p (left_mono s m (λ job. max_left (s job) (t job)))))
      (λ (h : (max_z (s c.target) (t c.target) ≡ t c.target) × (s c.target ≤ℤ t c.target)). rw h.0 (≤ℤ-trans q (left_mono t m (λ job. max_right (s job) (t job)))))
      (max_cases (s c.target) (t c.target))

-- Lemma 1: adding one number to every time of a model gives a model
pub lemma_1 : (cs : List Clause) (t : Assignment) (d : ℤ) → KeepsAll t cs → KeepsAll (λ job. t job +ℤ d) cs
lemma_1 cs t d k = in_each _ cs (λ c i. shifted c t d (each_in (Keeps t) cs k i))

-- Lemma 3: the larger of two models, job by job, is a model
pub lemma_3 : (cs : List Clause) (s t : Assignment) → KeepsAll s cs → KeepsAll t cs → KeepsAll (λ job. max_z (s job) (t job)) cs
lemma_3 cs s t p q = in_each _ cs (λ c i. larger c s t (each_in (Keeps s) cs p i) (each_in (Keeps t) cs q i))
