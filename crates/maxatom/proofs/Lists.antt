-- Members, every element, one element stored, and sums over a list. Assumes nothing.
use mathlib.Core.Path.{◌≡◌, refl, ap}
use mathlib.Core.List.{List, [], ◌∷◌, ◌++◌}
use Prim.Native.Nat.{ℕ, zero, suc, ◌+◌, ◌<◌, ◌≤◌}
use native.Mathlib.Omega.{arith}
use lib.ListN.{length, get_or, set, take, drop}
use lib.IntN.{ℤ, pos}
use Rattle.maxatom.specs.Rule.{time_at}
use Rattle.maxatom.specs.Book.{Each}
use Rattle.maxatom.specs.Inner.{In, here, there}
use Rattle.maxatom.specs.Runs.{sum_by}

pub each_in : {A : Type 0} (P : A → Type 0) {a : A} (l : List A) → Each P l → In a l → P a
each_in P [] e i = elim i [ ]
each_in P (b ∷ l) e here = e.0
each_in P (b ∷ l) e (there i) = each_in P l e.1 i

pub in_each : {A : Type 0} (P : A → Type 0) (l : List A) → ((a : A) → In a l → P a) → Each P l
in_each P [] f = tt
in_each P (a ∷ l) f = (f a here, in_each P l (λ b i. f b (there i)))

pub each_map : {A : Type 0} (P Q : A → Type 0) (l : List A) → ((a : A) → P a → Q a) → Each P l → Each Q l
each_map P Q [] f e = tt
each_map P Q (a ∷ l) f e = (f a e.0, each_map P Q l f e.1)

-- what holds of each of two lists holds of each of both
pub each_join : {A : Type 0} (P : A → Type 0) (l m : List A) → Each P l → Each P m → Each P (l ++ m)
each_join P [] m p q = q
each_join P (a ∷ l) m p q = (p.0, each_join P l m p.1 q)

-- and of each of a stretch
pub each_take : {A : Type 0} (P : A → Type 0) (l : List A) (n : ℕ) → Each P l → Each P (take n l)
each_take P [] zero e = e
each_take P [] (suc n) e = e
each_take P (a ∷ l) zero e = tt
each_take P (a ∷ l) (suc n) e = (e.0, each_take P l n e.1)

pub each_drop : {A : Type 0} (P : A → Type 0) (l : List A) (n : ℕ) → Each P l → Each P (drop n l)
each_drop P [] zero e = e
each_drop P [] (suc n) e = e
each_drop P (a ∷ l) zero e = e
each_drop P (a ∷ l) (suc n) e = each_drop P l n e.1

-- what holds of each holds at each place, and back
pub each_place : {A : Type 0} (P : A → Type 0) (l : List A) (i : ℕ) (d : A) → i < length l → Each P l → P (get_or l i d)
each_place P [] i d h e = absurd (omega arith)
each_place P (a ∷ l) zero d h e = e.0
each_place P (a ∷ l) (suc i) d h e = each_place P l i d (omega arith) e.1

pub place_each : {A : Type 0} (P : A → Type 0) (l : List A) (d : A) → ((k : ℕ) → k < length l → P (get_or l k d)) → Each P l
place_each P [] d f = tt
place_each P (a ∷ l) d f = (f 0 (omega arith), place_each P l d (λ k h. f (suc k) (omega arith)))

-- an element at a place is one of the list, and one of the list has a place
pub at_in : {A : Type 0} (l : List A) (i : ℕ) (d : A) → i < length l → In (get_or l i d) l
at_in [] i d h = absurd (omega arith)
at_in (a ∷ l) zero d h = here
at_in (a ∷ l) (suc i) d h = there (at_in l i d (omega arith))

pub in_at : {A : Type 0} {a : A} {l : List A} (d : A) → In a l → (i : ℕ) × (i < length l) × (get_or l i d ≡ a)
in_at d here = (0, omega arith, refl)
in_at d (there i) = let r = in_at d i in (suc r.0, omega (arith, r.1), r.2)

-- what holds of each time holds at each job, and back
pub each_time : (P : ℤ → Type 0) (b : List ℤ) → P (time_at [] 0) → Each P b → (job : ℕ) → P (time_at b job)
each_time P [] d e job = d
each_time P (t ∷ b) d e zero = e.0
each_time P (t ∷ b) d e (suc job) = each_time P b d e.1 job

pub time_each : (P : ℤ → Type 0) (b : List ℤ) → ((job : ℕ) → P (time_at b job)) → Each P b
time_each P [] f = tt
time_each P (t ∷ b) f = (f 0, time_each P b (λ job. f (suc job)))

-- at a place, once v is stored at another
pub set_at : {A : Type 0} (P : A → Type 0) (l : List A) (d : A) (i j : ℕ) (v : A) → P (get_or l j d) → (i ≡ j → P v) → P (get_or (set l i v) j d)
set_at P [] d i j v p q = p
set_at P (a ∷ l) d zero zero v p q = q refl
set_at P (a ∷ l) d zero (suc j) v p q = p
set_at P (a ∷ l) d (suc i) zero v p q = p
set_at P (a ∷ l) d (suc i) (suc j) v p q = set_at P l d i j v p (λ r. q (ap suc r))

pub set_time : (P : ℤ → Type 0) (b : List ℤ) (i job : ℕ) (v : ℤ) → P (time_at b job) → (i ≡ job → P v) → P (time_at (set b i v) job)
set_time P b i job v p q = set_at P b (pos 0) i job v p q

pub sum_set : (w : ℤ → ℕ) (b : List ℤ) (i : ℕ) (v : ℤ) → i < length b → sum_by w (set b i v) + w (time_at b i) ≡ sum_by w b + w v
unfolding sum_by
sum_set w [] i v h = absurd (omega arith)
sum_set w (t ∷ b) zero v h = omega arith
sum_set w (t ∷ b) (suc i) v h = omega (arith, sum_set w b i v (omega arith))

pub sum_most : (w : ℤ → ℕ) (b : List ℤ) (job : ℕ) → w (time_at [] 0) ≡ 0 → w (time_at b job) ≤ sum_by w b
unfolding sum_by
sum_most w [] job h = omega arith
sum_most w (t ∷ b) zero h = omega arith
sum_most w (t ∷ b) (suc job) h = omega (arith, sum_most w b job h)
