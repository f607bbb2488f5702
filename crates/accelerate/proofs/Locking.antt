-- A pass in lockstep, clause by clause. Assumes nothing.
use mathlib.Core.Path.{◌≡◌, subst}
use mathlib.Core.List.{List, [], ◌∷◌, ◌++◌}
use Prim.Native.Nat.{ℕ, ◌+◌, ◌≤◌}
use native.Mathlib.Omega.{arith}
use lib.ListN.{length, set}
use lib.IntN.{ℤ}
use lib.Signed.{◌≤ℤ◌, ◌<ℤ◌}
use mir.Syntax.{w32, w64}
use mir.Val.{SFits, to_z, of_z}
use mir.Facts.{to_z-of_z}
use Rattle.maxatom.specs.Rule.{time_at}
use Rattle.maxatom.specs.Clauses.{Clause, left_of}
use Rattle.maxatom.specs.Passes.{SameArm, Lockstep, done, keep, lower}
use Rattle.maxatom.proofs.Clauses.{reached}
use Rattle.maxatom.proofs.Integers.{le_read, le_make, lt_read, eq_make}
use Rattle.maxatom.proofs.Signed.{fits_between}
use Rattle.clauses.specs.Passes.{OneReaches}

-- the target's time lies above the left side, and the floor does not
abbrev pub Steppable : ℤ → ℤ → ℤ → Type 0
Steppable floor left time = (left <ℤ time) × (floor ≤ℤ left)

-- a left side between them fits 32 bits
pub steppable_fits : {floor left time : ℤ} → SFits w32 floor → SFits w32 time → Steppable floor left time → SFits w32 left
steppable_fits f t h = fits_between f t h.1 (le_make (omega (arith, lt_read h.0)))

-- a left side between floor and time, read off the numbers that the code compares
pub read_between : {floor left time : ℤ} → SFits w32 floor → SFits w64 left → SFits w32 time →
    Steppable (to_z w32 (of_z w32 floor)) (to_z w64 (of_z w64 left)) (to_z w32 (of_z w32 time)) → Steppable floor left time
read_between f l t h = rw (to_z-of_z f, to_z-of_z l, to_z-of_z t) at h

pub read_reaches : {c : Clause} {a b : ℤ} {near far : List ℤ} → SFits w64 a → SFits w64 b → OneReaches c (to_z w64 (of_z w64 a)) (to_z w64 (of_z w64 b)) near far → OneReaches c a b near far
read_reaches f g r = rw (to_z-of_z f, to_z-of_z g) at r

-- one clause in lockstep: kept by one arm at both assignments
module _ {floor : ℤ} {c : Clause} {near far : List ℤ} {z : ℕ} {a b : ℤ} where
  pub lockstep_kept : z ≡ c.target → a ≡ time_at near z → b ≡ time_at far z → OneReaches c a b near far → Lockstep floor (c ∷ []) near far near far 0
  lockstep_kept e d h r =
      let k = rw (d, h, e) at r in
      keep (record { arm = k.arm; among = k.among; near_kept = k.near_reached; far_kept = k.far_reached }) done

  -- or violated at both, with one arm that reaches the left side at both
  pub lockstep_low : z ≡ c.target → a ≡ left_of (time_at near) c → b ≡ left_of (time_at far) c → Steppable floor a (time_at near z) → Steppable floor b (time_at far z) →
      OneReaches c a b near far → Lockstep floor (c ∷ []) near far (set near z a) (set far z b) 1
  lockstep_low e d h p q r =
      let l = rw (d, h) at r in
      let v = rw (d, e) at p in
      let w = rw (h, e) at q in
      let same : SameArm near far c =
      record {
        arm = l.arm;
        among = l.among;
        near_is = eq_make (omega (arith, le_read l.near_reached, le_read (reached (time_at near) c.first c.others l.among)));
        far_is = eq_make (omega (arith, le_read l.far_reached, le_read (reached (time_at far) c.first c.others l.among)));
      } in
      rw (d, h, e) (lower same v.0 w.0 v.1 w.1 done)

module _ {floor : ℤ} where
  -- a pass in lockstep goes on where another ended
  pub lockstep_join : {cs ds : List Clause} {n f n' f' n'' f'' : List ℤ} {s k : ℕ} → Lockstep floor cs n f n' f' s → Lockstep floor ds n' f' n'' f'' k →
      Lockstep floor (cs ++ ds) n f n'' f'' (s + k)
  lockstep_join {ds = ds} {n = n} {f = f} {n'' = n''} {f'' = f''} {k = k} done x = subst (λ (m : ℕ). Lockstep floor ds n f n'' f'' m) (omega arith) x
  lockstep_join (keep a w) x = keep a (lockstep_join w x)
  lockstep_join {cs = cs} {ds = ds} {n = n} {f = f} {n'' = n''} {f'' = f''} {k = k} (lower {s = s} a vn vf hn hf w) x =
      subst (λ (m : ℕ). Lockstep floor (cs ++ ds) n f n'' f'' m) (omega arith) (lower a vn vf hn hf (lockstep_join w x))

  pub lockstep_few : {cs : List Clause} {n f n' f' : List ℤ} {s : ℕ} → Lockstep floor cs n f n' f' s → s ≤ length cs
  lockstep_few done = omega arith
  lockstep_few (keep a w) = omega (arith, lockstep_few w)
  lockstep_few (lower a vn vf hn hf w) = omega (arith, lockstep_few w)
