-- A component advanced: at rest by a pass without a step, or by whole repetitions with the rest of one. Assumes nothing.
use mathlib.Core.Path.{◌≡◌, refl, sym, subst}
use mathlib.Core.List.{List}
use Prim.Native.Nat.{ℕ, ◌+◌, ◌-◌, ◌*◌, ◌/◌, ◌%◌, ◌<◌, ◌≤◌, ◌^◌}
use native.Mathlib.Decide.{dec_lt}
use native.Mathlib.Omega.{arith}
use lib.ListN.{length, get_or, get_or-eq_default}
use lib.IntN.{ℤ, pos, ◌+ℤ◌}
use lib.Signed.{◌≤ℤ◌}
use Rattle.std.proofs.Math.Nat.{mod-lt}
use Rattle.std.proofs.lemmas.Nat.{div-add-mod'}
use Rattle.maxatom.specs.Rule.{time_at}
use Rattle.maxatom.specs.Clauses.{Clause}
use Rattle.maxatom.specs.Passes.{Walk, Passing, Traced, Along}
use Rattle.maxatom.proofs.Integers.{le_read, le_make, add_parts}
use Rattle.maxatom.proofs.Lines.{along_rest, along_still}
use Rattle.maxatom.proofs.Components.{recounted, settled}
use Rattle.accelerate.specs.Acceleration.{Accelerated}
use Rattle.components.specs.Components.{Advanced}

-- a component at rest, by a pass without a step
pub advanced_still : {cs : List Clause} {floor : ℤ} {period : ℕ} {drops : List ℕ} {b b' : List ℤ} (passes : ℕ) → Walk floor cs b b' 0 →
    ((job : ℕ) → get_or drops job 0 ≡ 0) → period ≡ 1 → Advanced cs floor period drops b b' passes 0
advanced_still {cs = cs} {floor = floor} {period = period} {drops = drops} {b = b} passes w rest one =
    let line : ℕ → ℕ → ℤ → Type 0 = λ job i t. Along period (get_or drops job 0) (time_at b job) i t in
    record {
      few = omega arith;
      least = 0;
      some = λ h. h;
      traced = subst (λ (x : List ℤ). Traced floor cs 0 (λ job. Unit {0}) line b x passes 0) (sym (settled w).0)
          ((settled w).1 passes (λ job. Unit {0}) line (λ i h job u. rw (one, rest job) (along_still i (time_at b job))));
    }

-- whole repetitions at once, and the rest one by one
module _ {cs : List Clause} {floor : ℤ} {period passes s k : ℕ} {drops : List ℕ} {b m e : List ℤ} where
  pub advanced_along : Accelerated cs floor period (passes / period - 1) drops b m s → Passing floor cs 1 m e (passes % period) k → s + k < 2 ^ 62 → 1 ≤ period → 2 ≤ passes / period →
      length e ≡ length m → ((job : ℕ) → job < length m → time_at m job ≤ℤ (time_at e job +ℤ pos (get_or drops job 0))) →
      Advanced cs floor period drops b e passes (s + k)
  advanced_along l p few one two same near =
      record {
        few = few;
        least = 1;
        some = λ h. omega arith;
        traced = recounted (div-add-mod' passes period) refl
            (along_rest (passes / period) (recounted (rw is) refl l.traced) p (omega (arith, mod-lt passes {m = period} one)) (λ job u. lands job) (λ job u. above job));
      }
    where
      is : passes / period - 1 + 1 ≡ passes / period
      is = omega arith

      lands : (job : ℕ) → time_at b job ≡ time_at m job +ℤ pos (passes / period * get_or drops job 0)
      lands job = rw (← is) (l.lands job)

      within : (job : ℕ) → Dec (job < length m) → time_at m job ≤ℤ (time_at e job +ℤ pos (get_or drops job 0))
      within job (yes h) = near job h
      within job (no h) =
          rw (get_or-eq_default m (pos 0) {n = job} (omega arith), get_or-eq_default e (pos 0) {n = job} (omega arith)) (le_make (omega arith))

      above : (job : ℕ) → time_at b job ≤ℤ (time_at e job +ℤ pos ((passes / period + 1) * get_or drops job 0))
      above job =
          let d = get_or drops job 0 in
          rw (lands job)
          (le_make (omega (
            arith,
            le_read (within job (dec_lt job (length m))),
            add_parts (time_at m job) (pos (passes / period * d)),
            add_parts (time_at e job) (pos d),
            add_parts (time_at e job) (pos ((passes / period + 1) * d)),
          )))
