-- Lemma 2 of the paper, for clauses with any number of arms and any latest times: below every model that respects the latest times
-- there is one no lower than the smallest latest time minus the total of the offsets.
-- Idea: a place is a minute below zero. Keep the places that some clause's chosen arm spans, and those above the smallest latest time;
-- close up the others. Each offset spans no more places than its size, so few are kept. Assumes nothing.
use mathlib.Core.Path.{◌≡◌, refl}
use mathlib.Core.List.{List, [], ◌∷◌}
use mathlib.Core.Bool.{Bool, true, false, ◌||◌}
use Prim.Native.Nat.{ℕ, ◌+◌, ◌≤◌, min}
use native.Mathlib.Omega.{arith}
use lib.IntN.{ℤ, pos, neg_ℤ, ◌+ℤ◌}
use lib.Signed.{◌≤ℤ◌}
use Rattle.maxatom.specs.Book.{minus}
use Rattle.maxatom.specs.Clauses.{Clause, Assignment, Keeps}
use Rattle.maxatom.specs.declared.Arm.{Arm}
use Rattle.maxatom.proofs.Integers.{up, dn, le_read, le_make, add_parts, neg_parts, minus_parts, up_zero, ≤ℤ-trans, add_mono}
use Rattle.maxatom.proofs.Lists.{each_in}
use Rattle.maxatom.proofs.Counting.{count, count_none, count_or, count_slow, count_mono, count_all, within, within_count, within_true}
use Rattle.maxatom.proofs.Clauses.{KeepsAll, Below, Weighed, none, more, Reaching, reaching, reached, lemma_1}

module _ (t : Assignment) where
  chosen : (c : Clause) → Keeps t c → Reaching t c.first c.others (t c.target)
  chosen c k = reaching t c.first c.others (t c.target) k

  -- the places that a clause's chosen arm spans
  spanned : (c : Clause) → Keeps t c → ℕ → Bool
  spanned c k = let a = (chosen c k).arm in within (dn (t a.job)) (dn a.offset)

  unfoldable covered : (cs : List Clause) → KeepsAll t cs → ℕ → Bool
  covered [] m place = false
  covered (c ∷ cs) (k, m) place = spanned c k place || covered cs m place

  covered_count : (cs : List Clause) (m : KeepsAll t cs) → {total : ℕ} → Weighed cs total → (d : ℕ) → count (covered cs m) d ≤ total
  unfolding covered spanned
  covered_count [] m none d = omega (arith, count_none d)
  covered_count (c ∷ cs) (k, m) (more weight e w) d =
      let r = chosen c k in
      omega (
        arith,
        count_or (within (dn (t r.arm.job)) (dn r.arm.offset)) (covered cs m) d,
        within_count (dn (t r.arm.job)) (dn r.arm.offset) d,
        each_in (λ (a : Arm). dn a.offset ≤ weight) (c.first ∷ c.others) e r.among,
        covered_count cs m w d,
      )

-- only the places that pass the test are kept
abbrev squeeze : (ℕ → Bool) → Assignment → Assignment
squeeze p t job = minus (count p (dn (t job)))

abbrev NotAfterZero : Assignment → Type 0
NotAfterZero t = (job : ℕ) → t job ≤ℤ pos 0

-- an arm that reached its target still does, where its span is kept
squeeze_arm : (p : ℕ → Bool) (t : Assignment) → NotAfterZero t → (z v : ℕ) (k : ℤ) →
    ((place : ℕ) → within (dn (t v)) (dn k) place ≡ true → p place ≡ true) →
    t z ≤ℤ (t v +ℤ k) → squeeze p t z ≤ℤ (squeeze p t v +ℤ k)
squeeze_arm p t low z v k cov h =
    le_make
    (omega (
      arith,
      le_read h,
      up_zero (low z),
      up_zero (low v),
      add_parts (t v) k,
      add_parts (squeeze p t v) k,
      minus_parts (count p (dn (t v))),
      minus_parts (count p (dn (t z))),
      count_all p (dn (t v)) (dn k) (λ u a b. cov u (within_true (dn (t v)) (dn k) u a b)),
      count_slow p (dn (t z)) (up k),
      count_mono p (dn (t v) + dn k) (dn (t z) + up k) (omega (arith, le_read h, up_zero (low z), up_zero (low v), add_parts (t v) k)),
    ))

or_right : (a b : Bool) → b ≡ true → (a || b) ≡ true
or_right true b e = refl
or_right false b e = e

squeeze_keeps : (p : ℕ → Bool) (t : Assignment) → NotAfterZero t → (cs : List Clause) (m : KeepsAll t cs) →
    ((place : ℕ) → covered t cs m place ≡ true → p place ≡ true) → KeepsAll (squeeze p t) cs
unfolding covered spanned
squeeze_keeps p t low [] m cov = tt
squeeze_keeps p t low (c ∷ cs) (k, m) cov =
    let r = chosen t c k in (
      ≤ℤ-trans (squeeze_arm p t low c.target r.arm.job r.arm.offset (λ u e. cov u (rw e)) r.reaches)
          (reached (squeeze p t) c.first c.others r.among),
      squeeze_keeps p t low cs m (λ u e. cov u (or_right (spanned t c k u) (covered t cs m u) e)),
    )

-- what Lemma 2 gives: a model under the latest times, no lower than `low` minus the total
pub record Small (cs : List Clause) (total : ℕ) (latest : Assignment) (low : ℤ) : Type 0 where
  pub times : Assignment
  pub keeps : KeepsAll times cs
  pub under : Below times latest
  pub near : (job : ℕ) → low ≤ℤ (times job +ℤ pos (total))

module _ (cs : List Clause) {total : ℕ} (weighed : Weighed cs total) where
  -- where no latest time is above zero
  small_below : (latest : Assignment) (low : ℤ) → ((job : ℕ) → low ≤ℤ latest job) → NotAfterZero latest →
      (t : Assignment) → KeepsAll t cs → Below t latest → Small cs total latest low
  small_below latest low lowest neg t m u = record { times = squeeze p t; keeps = squeeze_keeps p t early cs m (λ x e. or_right (within 0 (dn low) x) (covered t cs m x) e); under = under'; near = near' }
    where
      p : ℕ → Bool
      p place = within 0 (dn low) place || covered t cs m place

      early : NotAfterZero t
      early job = ≤ℤ-trans (u job) (neg job)

      top : (d : ℕ) → min d (dn low) ≤ count p d
      top d =
          let e = min d (dn low) in
          omega (arith, count_all p 0 e (λ x a b. rw (within_true 0 (dn low) x a (omega arith))), count_mono p (0 + e) d (omega arith))

      under' : Below (squeeze p t) latest
      under' job =
          le_make
          (omega
          (arith, minus_parts (count p (dn (t job))), top (dn (t job)), le_read (u job), up_zero (neg job), le_read (lowest job), up_zero (early job)))

      near' : (job : ℕ) → low ≤ℤ (squeeze p t job +ℤ pos (total))
      near' job =
          let d = dn (t job) in
          le_make
          (omega (
            arith,
            minus_parts (count p d),
            add_parts (squeeze p t job) (pos (total)),
            count_or (within 0 (dn low)) (covered t cs m) d,
            within_count 0 (dn low) d,
            covered_count t cs m weighed d,
            up_zero (≤ℤ-trans (lowest job) (neg job)),
          ))

  -- whatever the sign of the latest times
  pub lemma_2 : (latest : Assignment) (low top : ℤ) → ((job : ℕ) → low ≤ℤ latest job) → ((job : ℕ) → latest job ≤ℤ top) →
      (t : Assignment) → KeepsAll t cs → Below t latest → Small cs total latest low
  lemma_2 latest low top lowest most t m u =
      record {
        times = λ job. s.times job +ℤ top;
        keeps = lemma_1 cs s.times top s.keeps;
        under = λ job.
            le_make (omega (arith, le_read (s.under job), add_parts (s.times job) top, add_parts (latest job) d, neg_parts top));
        near = λ job.
            le_make
            (omega (
              arith,
              le_read (s.near job),
              add_parts (s.times job) top,
              add_parts (s.times job +ℤ top) (pos (total)),
              add_parts (s.times job) (pos (total)),
              add_parts low d,
              neg_parts top,
            ));
      }
    where
      d : ℤ
      d = neg_ℤ top

      lower : {a b : ℤ} → a ≤ℤ b → (a +ℤ d) ≤ℤ (b +ℤ d)
      lower {a = a} {b = b} h = add_mono a b d h

      s : Small cs total (λ job. latest job +ℤ d) (low +ℤ d)
      s =
          small_below (λ job. latest job +ℤ d) (low +ℤ d) (λ job. lower (lowest job))
          (λ job. le_make (omega (arith, le_read (most job), add_parts (latest job) d, neg_parts top)))
          (λ job. t job +ℤ d) (lemma_1 cs t d m) (λ job. lower (u job))
