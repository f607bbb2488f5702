-- Passes taken at once: the tests of a try, what an accelerated stretch is, and that it is passes. Assumes nothing.
use mathlib.Core.Path.{◌≡◌, refl, sym, subst}
use mathlib.Core.List.{List, [], ◌∷◌}
use Prim.Native.Nat.{ℕ, suc, ◌+◌, ◌-◌, ◌*◌, ◌<◌, ◌≤◌, ◌^◌}
use native.Mathlib.Nat.{add-mul, mul-pos, mul-le-mul}
use native.Mathlib.Decide.{dec_lt}
use native.Mathlib.Omega.{arith}
use lib.ListN.{length, get_or, set, get_or-eq_default}
use lib.Seq.{get_or-set_same}
use lib.IntN.{ℤ, pos, ◌+ℤ◌}
use lib.Signed.{◌≤ℤ◌}
use borrow.Author.Count.{below_more}
use Rattle.std.specs.Prelude.{Option, Some, None, MatchOption, unwrap_or}
use Rattle.maxatom.specs.Rule.{time_at}
use Rattle.maxatom.specs.Clauses.{Clause}
use Rattle.maxatom.specs.Passes.{LockstepPasses, Passing, start, round}
use Rattle.maxatom.proofs.Integers.{up, dn, le_make, eq_make, add_parts}
use Rattle.maxatom.proofs.Lists.{set_time}
use Rattle.maxatom.proofs.Lockstep.{joined, Apart, Aparts, none, next}
use Rattle.maxatom.proofs.Lines.{repeated_along, repeated_ends}
use Rattle.maxatom.proofs.Components.{forget}
use Rattle.accelerate.specs.Acceleration.{InLockstep, Spread, Dropped, PassesMade, Accelerated}

-- filled up to i: what holds of each of the first i times
pub record Filled (P : ℕ → ℤ → Type 0) (times : List ℤ) (i : ℕ) : Type 0 where
  pub each : (job : ℕ) → job < i → P job (time_at times job)

pub filled_next : {P : ℕ → ℤ → Type 0} {times : List ℤ} {i : ℕ} → Filled P times i → (v : ℤ) → P i v → i < length times → Filled P (set times i v) (i + 1)
filled_next {P = P} {times = times} {i = i} f v here h =
    record {
      each = below_more (λ job. P job (time_at (set times i v) job)) i (λ job l. set_time (P job) times i job v (f.each job l) (λ e. absurd (omega arith)))
          (rw (get_or-set_same times i v (pos 0) h) here);
    }

module _ {cs : List Clause} {floor : ℤ} where
  -- passes made: none, some after others, and a stretch of them taken at once
  pub made_none : (b : List ℤ) → PassesMade cs floor b b 0
  made_none b = record { passes = 0; passing = start }

  pub made_then : {b b' b'' : List ℤ} {s k : ℕ} → PassesMade cs floor b b' s → PassesMade cs floor b' b'' k → PassesMade cs floor b b'' (s + k)
  made_then p q = record { passes = p.passes + q.passes; passing = joined p.passing q.passing }

  pub made_accelerated : {passes t : ℕ} {drops : List ℕ} {b b' : List ℤ} {k : ℕ} → Accelerated cs floor passes t drops b b' k → PassesMade cs floor b b' k
  made_accelerated {passes = passes} {t = t} l = record { passes = (t + 1) * passes; passing = forget l.traced }

  -- no steps, no change: what is made after them is made from the start
  pub made_still : {b b' : List ℤ} {s : ℕ} → PassesMade cs floor b b' s → s ≤ 0 → b' ≡ b
  made_still {b = b} q = go q.passing
    where
      go : {b' : List ℤ} {p s : ℕ} → Passing floor cs 1 b b' p s → s ≤ 0 → b' ≡ b
      go start h = refl
      go (round r w some) h = absurd (omega arith)

  pub made_after : {b b' b'' : List ℤ} {s k : ℕ} → PassesMade cs floor b b' s → s ≤ 0 → PassesMade cs floor b' b'' k → PassesMade cs floor b b'' k
  made_after {b'' = b''} {k = k} p h q = subst (λ (x : List ℤ). PassesMade cs floor x b'' k) (made_still p h) q

-- a try: its steps, or none
abbrev pub Tried : List Clause → ℤ → ℕ → ℕ → List ℕ → List ℤ → List ℤ → Option ℕ → Type 0
Tried cs floor passes t drops b b' made = MatchOption made (b' ≡ b) (λ s. Accelerated cs floor passes t drops b b' s)

module _ (cs : List Clause) (floor : ℤ) (passes t : ℕ) (drops : List ℕ) (b b' : List ℤ) where
  pub made_try : (made : Option ℕ) → Tried cs floor passes t drops b b' made → PassesMade cs floor b b' (unwrap_or made 0)
  made_try None e = subst (λ (x : List ℤ). PassesMade cs floor b x 0) (sym e) (made_none b)
  made_try (Some s) l = made_accelerated l

-- the test of a try, job by job
pub later : {b : ℤ} (c : ℤ) (m : ℕ) → b ≡ c +ℤ pos m → up b + dn c ≡ up c + m + dn b
later c m e = rw e (omega (arith, add_parts c (pos m)))

pub earlier_le : {b : ℤ} (c : ℤ) (m : ℕ) → b ≡ c +ℤ pos m → c ≤ℤ b
earlier_le c m e = le_make (omega (arith, later c m e))

apart : (t d : ℕ) {b n c f : ℤ} → b ≡ n +ℤ pos d → b ≡ f +ℤ pos ((t + 1) * d) → b ≡ c +ℤ pos (t * d) → Apart t b n c f
apart t d {b = b} {n = n} {c = c} {f = f} p q r =
    record {
      drop = d;
      near_is = p;
      far_is = eq_make (omega (arith, add_parts f (pos d), later f ((t + 1) * d) q, later c (t * d) r, add-mul t 1 d));
      apart = r;
    }

aparts : (t : ℕ) (b n c f : List ℤ) → length n ≡ length b → length c ≡ length b → length f ≡ length b →
    ((job : ℕ) → job < length b → Apart t (time_at b job) (time_at n job) (time_at c job) (time_at f job)) → Aparts t b n c f
aparts t [] [] [] [] p q r h = none
aparts t [] (x ∷ n) c f p q r h = absurd (omega arith)
aparts t [] [] (x ∷ c) f p q r h = absurd (omega arith)
aparts t [] [] [] (x ∷ f) p q r h = absurd (omega arith)
aparts t (x ∷ b) [] c f p q r h = absurd (omega arith)
aparts t (x ∷ b) (y ∷ n) [] f p q r h = absurd (omega arith)
aparts t (x ∷ b) (y ∷ n) (z ∷ c) [] p q r h = absurd (omega arith)
aparts t (x ∷ b) (y ∷ n) (z ∷ c) (w ∷ f) p q r h =
    next (h 0 (omega arith)) (aparts t b n c f (omega arith) (omega arith) (omega arith) (λ job l. h (suc job) (omega arith)))

pub accelerated_small : {t s : ℕ} → t ≤ 2 ^ 29 → s < 2 ^ 33 → (t + 1) * s < 2 ^ 63
accelerated_small {t = t} {s = s} p q =
    let m : (t + 1) * s ≤ (2 ^ 29 + 1) * (2 ^ 33 - 1) = mul-le-mul {n₂ = 2 ^ 29 + 1} {m₂ = 2 ^ 33 - 1} (omega arith) (omega arith) in
    omega arith

-- the passes taken at once, where the test is passed
module _ {t : ℕ} {drops : List ℕ} {times near' far' : List ℤ} (q : Dropped t drops times near' far') (ld : length drops ≡ length times) (ln : length near' ≡ length times) where
  -- a job that is none stays at 0
  falls : (job : ℕ) → time_at times job ≡ time_at near' job +ℤ pos (get_or drops job 0)
  falls job = go (dec_lt job (length times))
    where
      go : Dec (job < length times) → time_at times job ≡ time_at near' job +ℤ pos (get_or drops job 0)
      go (yes h) = q.near_is job h
      go (no h) =
          rw (get_or-eq_default times (pos 0) {n = job} (omega arith), get_or-eq_default near' (pos 0) {n = job} (omega arith), get_or-eq_default drops 0 {n = job} (omega arith)) refl

  pub accelerated : {cs : List Clause} {floor : ℤ} {p s : ℕ} {near far times' : List ℤ} → 1 ≤ t → t ≤ 2 ^ 29 → Spread t drops times near far →
      InLockstep cs floor near far near' far' p s → 1 ≤ s → length far ≡ length times → length far' ≡ length times → times' ≡ far' →
      Accelerated cs floor p t drops times times' ((t + 1) * s)
  accelerated {cs = cs} {floor = floor} {p = p} {s = s} {far = far} pos-t small spreading r some lf lf' e =
      let a : Aparts t times near' far far' =
      aparts t times near' far far' ln lf lf' (λ job h. apart t (get_or drops job 0) (q.near_is job h) (q.far_is job h) (spreading.far_is job h)) in
      let rs : LockstepPasses floor cs times far near' far' p s = subst (λ (b : List ℤ). LockstepPasses floor cs b far near' far' p s) spreading.near_is r.passing in
      record {
        few = accelerated_small small r.few;
        some = mul-pos {m = t + 1} {n = s} (omega arith) some;
        traced = rw e (repeated_along rs t pos-t a (λ job. get_or drops job 0) (λ job u. falls job));
        lands = λ job. rw e (repeated_ends rs t pos-t a job (get_or drops job 0) (falls job));
      }
