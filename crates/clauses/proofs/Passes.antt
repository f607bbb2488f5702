-- A pass over what is read as clauses, clause by clause. Assumes nothing.
use mathlib.Core.Path.{◌≡◌, refl, sym, ap, subst, ◌∙◌}
use mathlib.Core.List.{List, [], ◌∷◌, ◌++◌, map}
use Prim.Native.Nat.{ℕ, zero, suc, ◌+◌, ◌<◌, ◌≤◌}
use native.Mathlib.Decide.{ℕ_discrete}
use native.Mathlib.Omega.{arith}
use lib.Bits.{bit_or}
use lib.ListN.{length, get_or, set, take, length-map}
use lib.Seq.{get_or-set_other, take-length}
use lib.IntN.{ℤ, pos}
use lib.Signed.{◌≤ℤ◌, ◌<ℤ◌, lt_z}
use mathlib.Core.Bool.{Bool, true, false}
use mir.Syntax.{w32, w64}
use mir.Val.{SFits, of_z, to_z}
use mir.Facts.{to_z-of_z}
use Rattle.std.proofs.Common.{Bor, Option, Some}
use Rattle.std.proofs.lemmas.List.{map_more, get_or-map, take-map, length-take-le}
use Rattle.std.proofs.lemmas.Nat.Bits.{bit_at-lt, bit_at_or}
use Rattle.maxatom.specs.Rule.{time_at}
use Rattle.maxatom.specs.Book.{Each}
use Rattle.maxatom.specs.Clauses.{Clause, left_of, Keeps, stepped}
use Rattle.maxatom.specs.Inner.{InJobs}
use Rattle.maxatom.specs.Passes.{done}
use Rattle.maxatom.proofs.Walks.{walk_keep, walk_lower, walk_few}
use Rattle.maxatom.proofs.Integers.{le_make, lt_read, lt_true, lt_false}
use Rattle.maxatom.proofs.Signed.{fits_between, wide_test}
use Rattle.clauses.specs.Bits.{HasBlock}
use Rattle.clauses.specs.Passes.{InTimes, Walked, Falls, Noted}

pub or_left : (a b : ℕ) {k : ℕ} → HasBlock a k → HasBlock (bit_or a b) k
or_left a b {k = k} h = record { set = omega (arith, h.set, bit_at-lt b k, bit_at_or a b k) }

pub or_right : (a b : ℕ) {k : ℕ} → HasBlock b k → HasBlock (bit_or a b) k
or_right a b {k = k} h = record { set = omega (arith, h.set, bit_at-lt a k, bit_at_or a b k) }

-- the element x of a list is its element i
module _ {A : Type 0} (f : A → Clause) where
  -- what holds of each clause holds of it
  pub each_item : (P : Clause → Type 0) (l : List A) {i : ℕ} {x : A} → Each P (map f l) → i < length l → x ≡ get_or l i x → P (f x)
  each_item P [] e h is = absurd (omega arith)
  each_item P (a ∷ l) {i = zero} e h is = subst (λ (b : A). P (f b)) (sym is) e.0
  each_item P (a ∷ l) {i = suc i} e h is = each_item P l e.1 (omega arith) is

  -- the first i + 1 are the first i and the element
  pub more_item : (l : List A) {i : ℕ} (x : A) → i < length l → x ≡ get_or l i x → map f (take (i + 1) l) ≡ map f (take i l) ++ (f x ∷ [])
  more_item l {i = i} x h is = map_more f l i x h ∙ ap (λ (b : A). map f (take i l) ++ (f b ∷ [])) (sym is)

pub item_in_times : {A : Type 0} (f : A → Clause) (l : List A) (times now : List ℤ) {i : ℕ} {x : A} → InTimes (map f l) times → i < length l → x ≡ get_or l i x → length now ≡ length times →
    InJobs (length now) (f x)
item_in_times f l times now {x = x} e h is size = subst (λ (n : ℕ). InJobs n (f x)) (sym size) (each_item f (InJobs (length times)) l e h is)

-- what holds of it holds of the element at i, whatever stands for a missing one
pub fall_item : {A : Type 0} (f : A → Clause) (l : List A) {i : ℕ} (x : A) (d : Clause) {floor : ℤ} {b : List ℤ} → i < length l → x ≡ get_or l i x → Falls floor (f x) b → Falls floor (get_or (map f l) i d) b
fall_item f l {i = i} x d {floor = floor} {b = b} h is w = subst (λ (c : Clause). Falls floor c b) (ap f is ∙ sym (get_or-map f l i x d h)) w

-- what the code reads of a clause: its target, its left side in 64 bits, and its target's time
pub record Read (b : List ℤ) (c : Clause) (z : ℕ) (left time : ℤ) : Type 0 where
  pub target_is : z ≡ c.target
  pub left_is : left ≡ left_of (time_at b) c
  pub time_is : time ≡ to_z w32 (of_z w32 (time_at b z))
  pub left_fits : SFits w64 left
  pub time_fits : SFits w64 time
  pub fits : SFits w32 (time_at b z)

module _ {b : List ℤ} {c : Clause} {z : ℕ} {left time : ℤ} (r : Read b c z left time) where
  test : {v : Bool} → lt_z (to_z w64 (of_z w64 left)) (to_z w64 (of_z w64 time)) ≡ v → lt_z (left_of (time_at b) c) (time_at b c.target) ≡ v
  test {v = v} h = subst (λ (n : ℕ). lt_z (left_of (time_at b) c) (time_at b n) ≡ v) r.target_is (wide_test r.left_fits r.time_fits r.fits r.left_is r.time_is h)

  pub read_violated : lt_z (to_z w64 (of_z w64 left)) (to_z w64 (of_z w64 time)) ≡ true → left_of (time_at b) c <ℤ time_at b c.target
  read_violated h = lt_true (test h)

  pub read_kept : lt_z (to_z w64 (of_z w64 left)) (to_z w64 (of_z w64 time)) ≡ false → Keeps (time_at b) c
  read_kept h = lt_false (left_of (time_at b) c) (time_at b c.target) (test h)

  -- what the code reads of the floor
  module _ {floor low : ℤ} (floor_fits : SFits w32 floor) (low_fits : SFits w64 low) (low_is : low ≡ to_z w32 (of_z w32 floor)) where
    pub read_low : lt_z (to_z w64 (of_z w64 left)) (to_z w64 (of_z w64 low)) ≡ true → left_of (time_at b) c <ℤ floor
    read_low h = lt_true (wide_test r.left_fits low_fits floor_fits r.left_is low_is h)

    read_high : lt_z (to_z w64 (of_z w64 left)) (to_z w64 (of_z w64 low)) ≡ false → floor ≤ℤ left_of (time_at b) c
    read_high h = lt_false (left_of (time_at b) c) floor (wide_test r.left_fits low_fits floor_fits r.left_is low_is h)

    -- what is stored is the step
    stored : left_of (time_at b) c <ℤ time_at b c.target → floor ≤ℤ left_of (time_at b) c → set b z (to_z w32 (of_z w32 (to_z w64 (of_z w64 left)))) ≡ stepped b c
    stored v up =
        let wide : to_z w64 (of_z w64 left) ≡ left_of (time_at b) c = to_z-of_z {w = w64} r.left_fits ∙ r.left_is in
        let narrow : SFits w32 (left_of (time_at b) c) =
        fits_between floor_fits r.fits up (subst (λ (n : ℕ). left_of (time_at b) c ≤ℤ time_at b n) (sym r.target_is) (le_make (omega (arith, lt_read v)))) in
        ap (λ (t : ℤ). set b z (to_z w32 (of_z w32 t))) wide ∙ (ap (λ (t : ℤ). set b z t) (to_z-of_z {w = w32} narrow) ∙ ap (λ (n : ℕ). set b n (left_of (time_at b) c)) r.target_is)

-- a pass that has made nothing
pub walked_none : (floor : ℤ) (times : List ℤ) (steps : ℕ) → Walked floor [] times times steps steps
walked_none floor times steps = record { made = 0; counted = omega arith; walk = done }

-- one clause more
module _ {A : Type 0} (f : A → Clause) (l : List A) {floor : ℤ} {a b : List ℤ} (i : ℕ) {s₀ s : ℕ} (w : Walked floor (map f (take i l)) a b s₀ s) where
  pub walked_few : i ≤ length l → s ≤ s₀ + i
  walked_few h = omega (arith, w.counted, walk_few w.walk, length-map (take i l) f, length-take-le i l h)

  module _ (x : A) (h : i < length l) (is : x ≡ get_or l i x) where
    pub walked_keep : Keeps (time_at b) (f x) → Walked floor (map f (take (i + 1) l)) a b s₀ s
    walked_keep k = rw (more_item f l x h is) (record { made = w.made; counted = w.counted; walk = walk_keep w.walk (f x) k })

    -- by the step that the code makes
    pub walked_lower : {z : ℕ} {left time : ℤ} → Read b (f x) z left time → (low : ℤ) → lt_z (to_z w64 (of_z w64 left)) (to_z w64 (of_z w64 time)) ≡ true →
        SFits w32 floor → SFits w64 low → low ≡ to_z w32 (of_z w32 floor) → lt_z (to_z w64 (of_z w64 left)) (to_z w64 (of_z w64 low)) ≡ false →
        Walked floor (map f (take (i + 1) l)) a (set b z (to_z w32 (of_z w32 (to_z w64 (of_z w64 left))))) s₀ (s + 1)
    walked_lower r low t floor_fits low_fits low_is q =
        let v = read_violated r t in
        let up = read_high r floor_fits low_fits low_is q in
        rw (more_item f l x h is, stored r floor_fits low_fits low_is v up)
        (record { made = w.made + 1; counted = omega (arith, w.counted); walk = walk_lower w.walk (f x) v up })

  -- all clauses
  pub walked_all : length l ≤ i → i ≤ length l → Walked floor (map f l) a b s₀ s
  walked_all h k = subst (λ (m : List A). Walked floor (map f m) a b s₀ s) (ap (λ (n : ℕ). take n l) (omega arith) ∙ take-length l) w

  -- those before one
  pub walked_before : Walked floor (take i (map f l)) a b s₀ s
  walked_before = subst (λ (cs : List Clause). Walked floor cs a b s₀ s) (sym (take-map f i l)) w

-- what is said of the readers lent is said of any that are lent
pub noted_some : {o : Option (Bor (List ℕ))} {x y : Bor (List ℕ)} → o ≡ Some x → o ≡ Some y → {a b : List ℤ} {m₀ m : ℕ} → Noted x.now a b m₀ m → Noted y.now a b m₀ m
noted_some {x = x} {y = y} p q {a = a} {b = b} {m₀ = m₀} {m = m} n = let same : x ≡ y = cc in subst (λ (r : Bor (List ℕ)). Noted r.now a b m₀ m) same n

pub noted_none : (readers : List ℕ) (times : List ℤ) (dirty : ℕ) → Noted readers times times dirty dirty
noted_none readers times dirty = record { stay = λ b m. m; read = λ job b n m. absurd (n refl) }

-- a step makes the blocks of its job's readers dirty
pub noted_lower : {readers : List ℕ} {a b b' : List ℤ} {m₀ m : ℕ} → Noted readers a b m₀ m → (z : ℕ) (v : ℤ) → b' ≡ set b z v →
    Noted readers a b' m₀ (bit_or m (get_or readers z 0))
noted_lower {readers = readers} {a = a} {b = b} {b' = b'} {m = m} n z v e =
    record {
      stay = λ block h. or_left m (get_or readers z 0) (n.stay block h);
      read = λ job block changed h. go job block changed h (ℕ_discrete job z);
    }
  where
    go : (job block : ℕ) → (time_at b' job ≡ time_at a job → ⊥) → HasBlock (get_or readers job 0) block → Dec (job ≡ z) → HasBlock (bit_or m (get_or readers z 0)) block
    go job block changed h (yes q) = or_right m (get_or readers z 0) (subst (λ (j : ℕ). HasBlock (get_or readers j 0) block) q h)
    go job block changed h (no q) =
        or_left m (get_or readers z 0)
        (n.read job block (λ same. changed (ap (λ (t : List ℤ). time_at t job) e ∙ (get_or-set_other b z job v (pos 0) q ∙ same))) h)
