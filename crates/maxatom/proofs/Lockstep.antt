-- Lockstep: a list of clauses that is decided alike at two assignments decides so at every assignment between them on their line, so that
-- repetitions of it are one assignment. Over clauses with any number of arms. Assumes nothing.
use mathlib.Core.Path.{◌≡◌, refl, ap, subst}
use mathlib.Core.Bool.{Bool, true, false}
use mathlib.Core.List.{List, [], ◌∷◌}
use Prim.Native.Nat.{ℕ, zero, suc, ◌+◌, ◌*◌, ◌≤◌}
use native.Mathlib.Nat.{mul-add, add-mul, suc-mul, zero-mul, mul-zero, mul-le-mul_left, eq_of_mul-eq-mul_left}
use native.Mathlib.Omega.{arith}
use lib.ListN.{set}
use lib.IntN.{ℤ, pos, ◌+ℤ◌}
use lib.Signed.{◌≤ℤ◌, ◌<ℤ◌, le_z, lt_z}
use Rattle.maxatom.specs.Rule.{time_at}
use Rattle.maxatom.specs.Clauses.{Clause, arm_time, left_of, Keeps}
use Rattle.maxatom.specs.declared.Arm.{Arm}
use Rattle.maxatom.specs.Passes.{SameArm, SameKeeper, Walk, Lockstep, done, keep, lower, LockstepPasses, Passing, start, round}
use Rattle.maxatom.proofs.Integers.{up, dn, le_read, le_make, lt_read, eq_make, add_parts, le_true, le_false, lt_true, lt_false, ≤ℤ-trans}
use Rattle.maxatom.proofs.Clauses.{reaching, reached}

-- facts of integers by their parts, times p
scaled_sum : (p : ℕ) (a k : ℤ) → p * up (a +ℤ k) + (p * dn a + p * dn k) ≡ p * up a + p * up k + p * dn (a +ℤ k)
scaled_sum p a k =
    omega (
      arith,
      ap (λ (n : ℕ). p * n) (add_parts a k),
      mul-add p (up (a +ℤ k)) (dn a + dn k),
      mul-add p (dn a) (dn k),
      mul-add p (up a + up k) (dn (a +ℤ k)),
      mul-add p (up a) (up k),
    )

scaled_le : (p : ℕ) {a b : ℤ} → a ≤ℤ b → p * up a + p * dn b ≤ p * up b + p * dn a
scaled_le p {a = a} {b = b} h = omega (arith, mul-le-mul_left p (le_read h), mul-add p (up a) (dn b), mul-add p (up b) (dn a))

scaled_lt : (p : ℕ) {a b : ℤ} → a <ℤ b → p + (p * up a + p * dn b) ≤ p * up b + p * dn a
scaled_lt p {a = a} {b = b} h =
    omega (arith, mul-le-mul_left p (lt_read h), mul-add p 1 (up a + dn b), mul-add p (up a) (dn b), mul-add p (up b) (dn a))

-- m lies between: p + q times m is p times the near number and q times the far one
pub record Mid (p q : ℕ) (near m far : ℤ) : Type 0 where
  pub is : p * up m + q * up m + (p * dn near + q * dn far) ≡ p * dn m + q * dn m + (p * up near + q * up far)

module _ {p q : ℕ} where
  mid_same : (k : ℤ) → Mid p q k k k
  mid_same k = record { is = omega arith }

  mid_add : {n m f : ℤ} (k : ℤ) → Mid p q n m f → Mid p q (n +ℤ k) (m +ℤ k) (f +ℤ k)
  mid_add {n = n} {m = m} {f = f} k h =
      record { is = omega (arith, h.is, scaled_sum p n k, scaled_sum q f k, scaled_sum p m k, scaled_sum q m k) }

  module _ (some : 1 ≤ p + q) {n m f n' m' f' : ℤ} (h : Mid p q n m f) (h' : Mid p q n' m' f') where
    mid_le : n ≤ℤ n' → f ≤ℤ f' → m ≤ℤ m'
    mid_le a b = go (le_z m m') refl
      where
        go : (t : Bool) → le_z m m' ≡ t → m ≤ℤ m'
        go true e = le_true e
        go false e =
            let over = le_false m m' e in
            absurd (omega (arith, h.is, h'.is, scaled_le p a, scaled_le q b, scaled_lt p over, scaled_lt q over))

    mid_lt : n <ℤ n' → f <ℤ f' → m <ℤ m'
    mid_lt a b = go (lt_z m m') refl
      where
        go : (t : Bool) → lt_z m m' ≡ t → m <ℤ m'
        go true e = lt_true e
        go false e =
            let over = lt_false m m' e in
            absurd (omega (arith, h.is, h'.is, scaled_lt p a, scaled_lt q b, scaled_le p over, scaled_le q over))

-- job by job
pub data Mids (p q : ℕ) : List ℤ → List ℤ → List ℤ → Type 0 where
  none : Mids p q [] [] []
  next : {n m f : ℤ} {near mid far : List ℤ} → Mid p q n m f → Mids p q near mid far → Mids p q (n ∷ near) (m ∷ mid) (f ∷ far)

module _ {p q : ℕ} where
  mids_at : {near mid far : List ℤ} → Mids p q near mid far → (job : ℕ) → Mid p q (time_at near job) (time_at mid job) (time_at far job)
  mids_at none job = mid_same (pos 0)
  mids_at (next h l) zero = h
  mids_at (next h l) (suc job) = mids_at l job

  mids_set : {near mid far : List ℤ} (job : ℕ) {n m f : ℤ} → Mids p q near mid far → Mid p q n m f → Mids p q (set near job n) (set mid job m) (set far job f)
  mids_set job none h = none
  mids_set zero (next g l) h = next h l
  mids_set (suc job) (next g l) h = next g (mids_set job l h)

  arm_mid : {near mid far : List ℤ} → Mids p q near mid far → (a : Arm) → Mid p q (arm_time (time_at near) a) (arm_time (time_at mid) a) (arm_time (time_at far) a)
  arm_mid l a = mid_add a.offset (mids_at l a.job)

-- what one arm keeps at both, it keeps between them
kept_mid : {p q : ℕ} → 1 ≤ p + q → {near mid far : List ℤ} → Mids p q near mid far → (c : Clause) → SameKeeper near far c → Keeps (time_at mid) c
kept_mid some {mid = mid} l c s =
    ≤ℤ-trans (mid_le some (mids_at l c.target) (arm_mid l s.arm) s.near_kept s.far_kept) (reached (time_at mid) c.first c.others s.among)

-- the larger arm at both is the larger between them
module _ {p q : ℕ} (some : 1 ≤ p + q) {near mid far : List ℤ} (l : Mids p q near mid far) (c : Clause) (s : SameArm near far c) where
  left_is : left_of (time_at mid) c ≡ arm_time (time_at mid) s.arm
  left_is =
      let r = reaching (time_at mid) c.first c.others (left_of (time_at mid) c) (le_make (omega arith)) in
      let under : arm_time (time_at mid) r.arm ≤ℤ arm_time (time_at mid) s.arm =
      mid_le some (arm_mid l r.arm) (arm_mid l s.arm)
      (subst (λ (v : ℤ). arm_time (time_at near) r.arm ≤ℤ v) s.near_is (reached (time_at near) c.first c.others r.among))
      (subst (λ (v : ℤ). arm_time (time_at far) r.arm ≤ℤ v) s.far_is (reached (time_at far) c.first c.others r.among)) in
      eq_make (omega (arith, le_read r.reaches, le_read under, le_read (reached (time_at mid) c.first c.others s.among)))

  left_mid : Mid p q (left_of (time_at near) c) (left_of (time_at mid) c) (left_of (time_at far) c)
  left_mid = rw (s.near_is, s.far_is, left_is) (arm_mid l s.arm)

-- the walk from an assignment between, and where it ends
pub record Between (p q : ℕ) (floor : ℤ) (cs : List Clause) (near mid far : List ℤ) (s : ℕ) : Type 0 where
  pub after : List ℤ
  pub walk : Walk floor cs mid after s
  pub mids : Mids p q near after far

pub between : {p q : ℕ} → 1 ≤ p + q → {floor : ℤ} {cs : List Clause} {n f n' f' : List ℤ} {s : ℕ} → Lockstep floor cs n f n' f' s →
    {m : List ℤ} → Mids p q n m f → Between p q floor cs n' m f' s
between some done l = record { after = _; walk = done; mids = l }
between some (keep {c = c} a more) l =
    let r = between some more l in
    record { after = r.after; walk = keep (kept_mid some l c a) r.walk; mids = r.mids }
between some {floor = floor} (lower {c = c} a vn vf hn hf more) {m = m} l =
    let left = left_mid some l c a in
    let r = between some more (mids_set c.target l left) in
    record {
      after = r.after;
      walk = lower (mid_lt some left (mids_at l c.target) vn vf) (mid_le some (mid_same floor) left hn hf) r.walk;
      mids = r.mids;
    }

-- the passes from an assignment between, and where they end
record PassesBetween (p q : ℕ) (floor : ℤ) (cs : List Clause) (near mid far : List ℤ) (passes s : ℕ) : Type 0 where
  after : List ℤ
  passing : Passing floor cs 1 mid after passes s
  mids : Mids p q near after far

module _ {floor : ℤ} {cs : List Clause} where
  -- the same passes, counted otherwise
  pub counted : {least : ℕ} {a b : List ℤ} {p q s k : ℕ} → p ≡ q → s ≡ k → Passing floor cs least a b p s → Passing floor cs least a b q k
  counted {least = least} {a = a} {b = b} {q = q} {s = s} e d l =
      subst (λ (n : ℕ). Passing floor cs least a b q n) d (subst (λ (n : ℕ). Passing floor cs least a b n s) e l)

  pub joined : {least : ℕ} {a b d : List ℤ} {p q s k : ℕ} → Passing floor cs least a b p s → Passing floor cs least b d q k → Passing floor cs least a d (p + q) (s + k)
  joined {least = least} {a = a} {d = d} l start = counted (omega arith) (omega arith) l
  joined {least = least} {a = a} {d = d} l (round m w h) = counted (omega arith) (omega arith) (round (joined l m) w h)

  passes_between : {p q : ℕ} → 1 ≤ p + q → {n f n' f' : List ℤ} {passes s : ℕ} → LockstepPasses floor cs n f n' f' passes s → {m : List ℤ} → Mids p q n m f →
      PassesBetween p q floor cs n' m f' passes s
  passes_between some start l = record { after = _; passing = start; mids = l }
  passes_between some (round r k h) l =
      let a = passes_between some r l in
      let b = between some k a.mids in
      record { after = b.after; passing = round a.passing b.walk h; mids = b.mids }

-- the drop is the same at both ends, and the far end lies t drops below the near one
pub record Apart (t : ℕ) (b near c far : ℤ) : Type 0 where
  pub drop : ℕ
  pub near_is : b ≡ near +ℤ pos drop
  pub far_is : c ≡ far +ℤ pos drop
  pub apart : b ≡ c +ℤ pos (t * drop)

pub data Aparts (t : ℕ) : List ℤ → List ℤ → List ℤ → List ℤ → Type 0 where
  none : Aparts t [] [] [] []
  next : {b n c f : ℤ} {bs near cs far : List ℤ} → Apart t b n c f → Aparts t bs near cs far → Aparts t (b ∷ bs) (n ∷ near) (c ∷ cs) (f ∷ far)

scaled_drop : (p : ℕ) {b : ℤ} (n : ℤ) (d : ℕ) → b ≡ n +ℤ pos d → p * up b + p * dn n ≡ p * up n + p * d + p * dn b
scaled_drop p {b = b} n d e = rw e (omega (arith, scaled_sum p n (pos d), mul-zero p))

-- a drop further: one less of the near end, one more of the far end
further : (p q : ℕ) {b n c f m : ℤ} → Apart (suc p + q) b n c f → Mid (suc p) q n m f → Mid p (suc q) b m c
further p q {b = b} {n = n} {c = c} {f = f} {m = m} a h =
    let d = a.drop in
    record {
      is = omega (
        arith,
        h.is,
        scaled_drop (suc p) n d a.near_is,
        scaled_drop q f d a.far_is,
        scaled_drop 1 c ((suc p + q) * d) a.apart,
        add-mul (suc p) q d,
        suc-mul p (up m),
        suc-mul p (dn m),
        suc-mul p (up b),
        suc-mul p (dn b),
        suc-mul p (up n),
        suc-mul p (dn n),
        suc-mul q (up m),
        suc-mul q (dn m),
        suc-mul q (up c),
        suc-mul q (dn c),
      );
    }

-- wholly at the far end
ends : (q : ℕ) {n m f : ℤ} → Mid zero (suc q) n m f → m ≡ f
ends q {n = n} {m = m} {f = f} h =
    eq_make
    (eq_of_mul-eq-mul_left (suc q) (omega arith) (up m + dn f) (up f + dn m)
    (omega (arith, h.is, mul-add (suc q) (up m) (dn f), mul-add (suc q) (up f) (dn m), zero-mul (up m), zero-mul (dn m), zero-mul (up n), zero-mul (dn n))))

furthers : (p q : ℕ) {b n c f m : List ℤ} → Aparts (suc p + q) b n c f → Mids (suc p) q n m f → Mids p (suc q) b m c
furthers p q none none = none
furthers p q (next a l) (next h k) = next (further p q a h) (furthers p q l k)

starts : (p : ℕ) {t : ℕ} {b n c f : List ℤ} → Aparts t b n c f → Mids p zero b b c
starts p none = none
starts p (next {b = b} {c = c} a l) =
    let h : Mid p zero b b c = record { is = omega (arith, zero-mul (up b), zero-mul (dn b), zero-mul (up c), zero-mul (dn c)) } in
    next h (starts p l)

all_end : (q : ℕ) {t : ℕ} {b n c f m : List ℤ} → Aparts t b n c f → Mids zero (suc q) n m f → m ≡ f
all_end q none none = refl
all_end q (next a l) (next h k) = rw (ends q h, all_end q l k)

-- every job lies q of its drops below b
pub record Down (b near : List ℤ) (q : ℕ) (m : List ℤ) : Type 0 where
  pub at : (job d : ℕ) → time_at b job ≡ time_at near job +ℤ pos d → time_at b job ≡ time_at m job +ℤ pos (q * d)

-- between two ends that lie p + q drops apart, m lies q drops below the near one
mid_down : (p q d : ℕ) {n m f : ℤ} → 1 ≤ p + q → n ≡ f +ℤ pos ((p + q) * d) → Mid p q n m f → n ≡ m +ℤ pos (q * d)
mid_down p q d {n = n} {m = m} {f = f} some e h =
    let w = m +ℤ pos (q * d) in
    eq_make
    (eq_of_mul-eq-mul_left (p + q) some (up n + dn w) (up w + dn n)
    (omega (arith, h.is, scaled_drop (p + q) m (q * d) refl, scaled_drop q f ((p + q) * d) e)))

apart_at : {t : ℕ} {b n c f : List ℤ} → Aparts t b n c f → (job : ℕ) → Apart t (time_at b job) (time_at n job) (time_at c job) (time_at f job)
apart_at none job = record { drop = 0; near_is = refl; far_is = refl; apart = eq_make (omega arith) }
apart_at (next a l) zero = a
apart_at (next a l) (suc job) = apart_at l job

-- it is enough to know it of the drops in the record
by_drop : {t : ℕ} {b n c f m : List ℤ} (a : Aparts t b n c f) (q : ℕ) → ((job : ℕ) → time_at b job ≡ time_at m job +ℤ pos (q * (apart_at a job).drop)) → Down b n q m
by_drop {b = b} {n = n} {m = m} a q h =
    record {
      at = λ job d e.
          subst (λ (x : ℕ). time_at b job ≡ time_at m job +ℤ pos (q * x))
          (omega (arith, scaled_drop 1 (time_at n job) d e, scaled_drop 1 (time_at n job) (apart_at a job).drop (apart_at a job).near_is)) (h job);
    }

-- before a repetition and after it
module _ (p q : ℕ) {b n c f m : List ℤ} (some : 1 ≤ p + q) (a : Aparts (p + q) b n c f) where
  down : Mids p q b m c → Down b n q m
  down l = by_drop a q (λ job. mid_down p q (apart_at a job).drop some (apart_at a job).apart (mids_at l job))

  down_next : Mids p q n m f → Down b n (suc q) m
  down_next l =
      by_drop a (suc q)
      (λ job.
      let h = apart_at a job in
      let d = h.drop in
      let x = time_at n job in
      let y = time_at f job in
      let z = time_at m job in
      let near : x ≡ y +ℤ pos ((p + q) * d) =
      eq_make (omega (
        arith,
        scaled_drop 1 x d h.near_is,
        scaled_drop 1 y d h.far_is,
        scaled_drop 1 (time_at c job) ((p + q) * d) h.apart,
        add_parts y (pos ((p + q) * d)),
      )) in
      eq_make (omega (
        arith,
        scaled_drop 1 x d h.near_is,
        scaled_drop 1 z (q * d) (mid_down p q d some near (mids_at l job)),
        add_parts z (pos (suc q * d)),
      )))

module _ {floor : ℤ} {cs : List Clause} {b c near far : List ℤ} {passes s : ℕ} (r : LockstepPasses floor cs b c near far passes s) (t : ℕ) (some : 1 ≤ t)
    (a : Aparts t b near c far) where
  -- what each repetition carries one drop further holds after t + 1 of them
  module _ (G : ℕ → List ℤ → Type 0)
      (turn : (q : ℕ) (m e : List ℤ) → Down b near q m → Down b near (suc q) e → Passing floor cs 1 m e passes s → G q m → G (suc q) e) where
    -- from the assignment q drops below b, of p + q
    repeated : (p q : ℕ) {m : List ℤ} → 1 ≤ p + q → p + q ≡ t → Aparts (p + q) b near c far → Mids p q b m c → G q m → G (suc t) far
    repeated zero zero n e h l g = absurd (omega arith)
    repeated zero (suc q) n e h l g =
        let k = passes_between n r l in
        subst (λ (n : ℕ). G n far) (omega arith)
        (subst (G (suc (suc q))) (all_end q h k.mids) (turn (suc q) _ _ (down zero (suc q) n h l) (down_next zero (suc q) n h k.mids) k.passing g))
    repeated (suc p) q n e h l g =
        let k = passes_between n r l in
        repeated p (suc q) (omega arith) (omega arith) (subst (λ (n : ℕ). Aparts n b near c far) (omega arith) h) (furthers p q h k.mids)
        (turn q _ _ (down (suc p) q n h l) (down_next (suc p) q n h k.mids) k.passing g)

    pub repeats : G 0 b → G (suc t) far
    repeats g = repeated t 0 (omega arith) (omega arith) (subst (λ (n : ℕ). Aparts n b near c far) (omega arith) a) (starts t a) g
