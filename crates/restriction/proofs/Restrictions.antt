-- What is left of clauses for their components: its arms and its jobs, one component more, and what is left for a component, clause by
-- clause. Assumes nothing.
use mathlib.Core.Path.{◌≡◌, refl, sym, ap, subst, ◌∙◌}
use mathlib.Core.Bool.{Bool, true, false, cond}
use mathlib.Core.List.{List, [], ◌∷◌, ◌++◌, map, append-nil, append_assoc}
use Prim.Native.Nat.{ℕ, zero, suc, ◌+◌, ◌<◌, ◌≤◌}
use native.Mathlib.Decide.{dec_lt}
use native.Mathlib.Omega.{arith}
use lib.ListN.{length, get_or, set, take, length-set, length-map}
use lib.IntN.{ℤ}
use lib.Signed.{le_z}
use borrow.Author.Tests.{lt-ltb, le-ltb, eqb-true}
use Rattle.std.proofs.Common.{Option, Some, None, below_more}
use Rattle.std.proofs.lemmas.List.{get_or_default, get_or-set_other, get_or-set_same, get_or-map, ext_get_or, take_all, take_more_set, map-append}
use Rattle.maxatom.specs.Rule.{time_at}
use Rattle.maxatom.specs.Book.{Each}
use Rattle.maxatom.specs.declared.Arm.{Arm}
use Rattle.maxatom.specs.Clauses.{Clause, arms_of, left_of}
use Rattle.maxatom.specs.Inner.{In, here, there, arm_at, InJobs}
use Rattle.maxatom.proofs.Lists.{each_in, in_each, each_map, each_join}
use Rattle.maxatom.proofs.Components.{Within, Merged, nothing, left, right}
use Rattle.clauses.specs.Passes.{InTimes, tautology, put_arm}
use Rattle.clauses.proofs.Arms.{arms_put}
use Rattle.clauses.proofs.Passes.{more_item}
use Rattle.restriction.specs.declared.pace.Pace.{Pace}
use Rattle.restriction.specs.Restriction.{no_pace, pace_at, component_of, own, first_own, own_or, with_own, restricted, leftover, among, pick}

-- the pace of a job in range, as the code reads it
pub pace_read : (paces : List Pace) (i : ℕ) → i < length paces → get_or paces i (record { component = 0; period = 0; fall = 0 }) ≡ pace_at paces i
pace_read paces i h = get_or_default paces i (record { component = 0; period = 0; fall = 0 }) no_pace h

module _ (paces : List Pace) (c : Clause) where
  -- the first own arm, by the arms before it
  pub first_at : (l : List Arm) (i : ℕ) (d : Arm) → i < length l → ((k : ℕ) → k < i → own paces c (get_or l k d) ≡ false) → own paces c (get_or l i d) ≡ true →
      first_own paces c l ≡ Some (get_or l i d)
  unfolding first_own
  first_at [] i d h f e = absurd (omega arith)
  first_at (a ∷ l) zero d h f e = rw e
  first_at (a ∷ l) (suc i) d h f e = rw (f 0 (omega arith)) (first_at l i d (omega arith) (λ k q. f (suc k) (omega arith)) e)

  pub first_none : (l : List Arm) (d : Arm) → ((k : ℕ) → k < length l → own paces c (get_or l k d) ≡ false) → first_own paces c l ≡ None
  unfolding first_own
  first_none [] d f = refl
  first_none (a ∷ l) d f = rw (f 0 (omega arith)) (first_none l d (λ k q. f (suc k) (omega arith)))

  -- what is said of the first own arm
  FirstOwn : List Arm → Option Arm → Type 0
  FirstOwn l None = Unit {0}
  FirstOwn l (Some a) = In a l × (own paces c a ≡ true)

  first_is : (l : List Arm) → FirstOwn l (first_own paces c l)
  unfolding first_own FirstOwn
  first_is [] = tt
  first_is (a ∷ l) = go (own paces c a) refl (first_own paces c l) (first_is l)
    where
      go : (t : Bool) → own paces c a ≡ t → (o : Option Arm) → FirstOwn l o → FirstOwn (a ∷ l) (cond t (Some a) o)
      go true e o h = (here, e)
      go false e None h = tt
      go false e (Some b) h = (there h.0, h.1)

  -- a clause that is left: an own arm is in the place of those that are not own
  pub record Left (d : Clause) : Type 0 where
    pub arm : Arm
    pub within : In arm (arms_of c)
    pub is_own : own paces c arm ≡ true
    pub is : d ≡ with_own paces arm c

  pub left_is : (times : List ℤ) → Each Left (leftover paces times c)
  unfolding leftover restricted FirstOwn
  left_is times = go (tautology c) (first_own paces c (arms_of c)) (first_is (arms_of c))
    where
      fit : (b : Bool) (a : Arm) → In a (arms_of c) → own paces c a ≡ true → Each Left (cond b (with_own paces a c ∷ []) [])
      fit true a i o = (record { arm = a; within = i; is_own = o; is = refl }, tt)
      fit false a i o = tt

      go : (t : Bool) (o : Option Arm) → FirstOwn (arms_of c) o → Each Left (cond t [] (restricted paces times c o))
      go true o h = tt
      go false None h = tt
      go false (Some a) h = fit _ a h.0 h.1

  module _ {a : Arm} (i : In a (arms_of c)) (o : own paces c a ≡ true) where
    -- its arms are the own arms of the clause
    own_arm : (l : List Arm) → ((b : Arm) → In b l → In b (arms_of c)) → {b : Arm} → In b (map (own_or paces c a) l) → In b (arms_of c) × (own paces c b ≡ true)
    own_arm [] sub j = elim j [ ]
    own_arm (x ∷ l) sub here = go (own paces c x) refl
      where
        go : (t : Bool) → own paces c x ≡ t → In (cond t x a) (arms_of c) × (own paces c (cond t x a) ≡ true)
        go true e = (sub x here, e)
        go false e = (i, o)
    own_arm (x ∷ l) sub (there j) = own_arm l (λ b k. sub b (there k)) j

    pub arm_of_own : {b : Arm} → In b (arms_of (with_own paces a c)) → In b (arms_of c) × (own paces c b ≡ true)
    arm_of_own j = own_arm (arms_of c) (λ b k. k) j

    pub own_in : (l : List Arm) {b : Arm} → In b l → own paces c b ≡ true → In b (map (own_or paces c a) l)
    own_in [] j e = elim j [ ]
    own_in (x ∷ l) here e = rw e here
    own_in (x ∷ l) (there j) e = there (own_in l j e)

    -- its jobs are jobs of the clause, and in the component of the target
    pub own_jobs : (n : ℕ) → InJobs n c → InJobs n (with_own paces a c)
    own_jobs n h =
        record {
          arms = in_each (λ (b : Arm). b.job < n) (arms_of (with_own paces a c)) (λ b j. each_in (λ (b : Arm). b.job < n) (arms_of c) h.arms (arm_of_own j).0);
          target = h.target;
        }

    pub own_within : (P : ℕ → Type 0) → ((job : ℕ) → component_of paces job ≡ component_of paces c.target → P job) → Within P (with_own paces a c)
    own_within P f = record { arms = λ j. f _ (eqb-true _ _ (arm_of_own j).1); target = f c.target refl }

  left_jobs : (times : List ℤ) (n : ℕ) → InJobs n c → Each (InJobs n) (leftover paces times c)
  left_jobs times n h = each_map Left (InJobs n) (leftover paces times c) (λ d l. subst (InJobs n) (sym l.is) (own_jobs l.within l.is_own n h)) (left_is times)

  left_within : (times : List ℤ) (P : ℕ → Type 0) → ((job : ℕ) → component_of paces job ≡ component_of paces c.target → P job) → Each (Within P) (leftover paces times c)
  left_within times P f = each_map Left (Within P) (leftover paces times c) (λ d l. subst (Within P) (sym l.is) (own_within l.within l.is_own P f)) (left_is times)

-- what is left, by the tests
module _ (paces : List Pace) (times : List ℤ) (c : Clause) where
  pub left_tautology : tautology c ≡ true → leftover paces times c ≡ []
  unfolding leftover
  left_tautology e = rw e

  module _ (proper : tautology c ≡ false) where
    pub left_foreign : first_own paces c (arms_of c) ≡ None → leftover paces times c ≡ []
    unfolding leftover restricted
    left_foreign e = rw (proper, e)

    module _ {a : Arm} (first : first_own paces c (arms_of c) ≡ Some a) {d : Clause} (is : d ≡ with_own paces a c) where
      pub left_sides : leftover paces times c ≡ cond (le_z (left_of (time_at times) c) (left_of (time_at times) d)) (d ∷ []) []
      unfolding leftover restricted
      left_sides = rw (proper, first, is) refl

-- the clauses of components, by the component of the first one's target
module _ (from to : ℕ) (paces : List Pace) (times : List ℤ) (c : Clause) (cs : List Clause) where
  pub pick_in : from ≤ component_of paces c.target → component_of paces c.target < to → pick from to paces times (c ∷ cs) ≡ leftover paces times c ++ pick from to paces times cs
  unfolding pick
  pick_in p q = rw (le-ltb (component_of paces c.target) from p, lt-ltb (component_of paces c.target) to q)

  pub pick_early : component_of paces c.target < from → pick from to paces times (c ∷ cs) ≡ pick from to paces times cs
  unfolding pick
  pick_early p = rw (lt-ltb (component_of paces c.target) from p)

  pub pick_late : from ≤ component_of paces c.target → to ≤ component_of paces c.target → pick from to paces times (c ∷ cs) ≡ pick from to paces times cs
  unfolding pick
  pick_late p q = rw (le-ltb (component_of paces c.target) from p, le-ltb (component_of paces c.target) to q)

  -- a clause of which nothing is left
  pub pick_nothing : leftover paces times c ≡ [] → pick from to paces times (c ∷ cs) ≡ pick from to paces times cs
  unfolding pick
  pick_nothing e = go (among from to (component_of paces c.target))
    where
      go : (t : Bool) → cond t (leftover paces times c) [] ++ pick from to paces times cs ≡ pick from to paces times cs
      go true = ap (λ (l : List Clause). l ++ pick from to paces times cs) e
      go false = refl

pub picked_none : (paces : List Pace) (times : List ℤ) (cs : List Clause) → pick 0 0 paces times cs ≡ []
unfolding pick
picked_none paces times [] = refl
picked_none paces times (c ∷ cs) = pick_late 0 0 paces times c cs (omega arith) (omega arith) ∙ picked_none paces times cs

-- what is left has no other jobs
pub pick_in_times : (from to : ℕ) (paces : List Pace) (times : List ℤ) (cs : List Clause) → InTimes cs times → InTimes (pick from to paces times cs) times
unfolding pick
pick_in_times from to paces times [] e = tt
pick_in_times from to paces times (c ∷ cs) e =
    each_join (InJobs (length times)) (cond (among from to (component_of paces c.target)) (leftover paces times c) []) (pick from to paces times cs)
    (go (among from to (component_of paces c.target))) (pick_in_times from to paces times cs e.1)
  where
    go : (t : Bool) → Each (InJobs (length times)) (cond t (leftover paces times c) [])
    go true = left_jobs paces c times (length times) e.0
    go false = tt

-- more clauses of the one component, or of the other
module _ {P Q : ℕ → Type 0} {cs ls rs : List Clause} (m : Merged P Q cs ls rs) where
  more_left : (more : List Clause) → Each (Within P) more → Merged P Q (more ++ cs) (more ++ ls) rs
  more_left [] e = m
  more_left (s ∷ more) e = left e.0 (more_left more e.1)

  more_right : (more : List Clause) → Each (Within Q) more → Merged P Q (more ++ cs) ls (more ++ rs)
  more_right [] e = m
  more_right (s ∷ more) e = right e.0 (more_right more e.1)

-- one component more
pub merge : (paces : List Pace) (times : List ℤ) (g : ℕ) (cs : List Clause) →
    Merged (λ job. component_of paces job < g) (λ job. component_of paces job ≡ g) (pick 0 (g + 1) paces times cs) (pick 0 g paces times cs) (pick g (g + 1) paces times cs)
unfolding pick
merge paces times g [] = nothing
merge paces times g (c ∷ cs) = go (merge paces times g cs) (dec_lt (component_of paces c.target) g) (dec_lt g (component_of paces c.target))
  where
    go : Merged (λ job. component_of paces job < g) (λ job. component_of paces job ≡ g) (pick 0 (g + 1) paces times cs) (pick 0 g paces times cs) (pick g (g + 1) paces times cs) →
        Dec (component_of paces c.target < g) → Dec (g < component_of paces c.target) →
        Merged (λ job. component_of paces job < g) (λ job. component_of paces job ≡ g)
        (pick 0 (g + 1) paces times (c ∷ cs)) (pick 0 g paces times (c ∷ cs)) (pick g (g + 1) paces times (c ∷ cs))
    go m (yes low) d =
        rw (pick_in 0 (g + 1) paces times c cs (omega arith) (omega arith), pick_in 0 g paces times c cs (omega arith) low, pick_early g (g + 1) paces times c cs low)
        (more_left m (leftover paces times c) (left_within paces c times (λ job. component_of paces job < g) (λ job e. omega arith)))
    go m (no l) (yes high) =
        rw (
          pick_late 0 (g + 1) paces times c cs (omega arith) (omega arith),
          pick_late 0 g paces times c cs (omega arith) (omega arith),
          pick_late g (g + 1) paces times c cs (omega arith) (omega arith),
        )
        m
    go m (no l) (no h) =
        rw (
          pick_in 0 (g + 1) paces times c cs (omega arith) (omega arith),
          pick_late 0 g paces times c cs (omega arith) (omega arith),
          pick_in g (g + 1) paces times c cs (omega arith) (omega arith),
        )
        (more_right m (leftover paces times c) (left_within paces c times (λ job. component_of paces job ≡ g) (λ job e. omega arith)))

-- one clause more at the end: what is left of it is added, or nothing is
pick_add : (from to : ℕ) (paces : List Pace) (times : List ℤ) (cs : List Clause) (c : Clause) →
    pick from to paces times (cs ++ (c ∷ [])) ≡ pick from to paces times cs ++ cond (among from to (component_of paces c.target)) (leftover paces times c) []
unfolding pick
pick_add from to paces times [] c = append-nil _
pick_add from to paces times (b ∷ cs) c =
    let of = cond (among from to (component_of paces b.target)) (leftover paces times b) [] in
    ap (λ (l : List Clause). of ++ l) (pick_add from to paces times cs c) ∙ sym (append_assoc of (pick from to paces times cs) _)

-- a component among one alone
among_one : (g component : ℕ) → component ≡ g → among g (g + 1) component ≡ true
among_one g component e = rw (le-ltb component g (omega arith), lt-ltb component (g + 1) (omega arith))

among_other : (g component : ℕ) → (component ≡ g → ⊥) → among g (g + 1) component ≡ false
among_other g component n = go (dec_lt component g)
  where
    go : Dec (component < g) → among g (g + 1) component ≡ false
    go (yes l) = rw (lt-ltb component g l)
    go (no l) = rw (le-ltb component g (omega arith), le-ltb component (g + 1) (omega arith))

-- the first m of those picked are what is left of the first i clauses of a list l for a component
module _ {A : Type 0} (f : A → Clause) (g : ℕ) (paces : List Pace) (times : List ℤ) (l : List A) where
  pub record Picked (size : ℕ) (picked : List A) (m i : ℕ) : Type 0 where
    pub few : m ≤ i
    pub size_is : length picked ≡ size
    pub taken : map f (take m picked) ≡ pick g (g + 1) paces times (map f (take i l))

  pub picking_none : (picked : List A) → Picked (length picked) picked 0 0
  unfolding pick
  picking_none picked = record { few = omega arith; size_is = refl; taken = refl }

  module _ {size : ℕ} {picked : List A} {m i : ℕ} (s : Picked size picked m i) where
    pub picking_all : length l ≤ i → map f (take m picked) ≡ pick g (g + 1) paces times (map f l)
    picking_all h = s.taken ∙ ap (λ (k : List A). pick g (g + 1) paces times (map f k)) (take_all i l h)

    -- one clause more, x
    module _ {x : A} (h : i < length l) (is : x ≡ get_or l i x) where
      taken_with : (more : List Clause) → cond (among g (g + 1) (component_of paces (f x).target)) (leftover paces times (f x)) [] ≡ more →
          map f (take m picked) ++ more ≡ pick g (g + 1) paces times (map f (take (i + 1) l))
      taken_with more e =
          ap (λ (k : List Clause). k ++ more) s.taken ∙ ap (λ (k : List Clause). pick g (g + 1) paces times (map f (take i l)) ++ k) (sym e) ∙
          sym (pick_add g (g + 1) paces times (map f (take i l)) (f x)) ∙ ap (λ (k : List Clause). pick g (g + 1) paces times k) (sym (more_item f l x h is))

      skipped : cond (among g (g + 1) (component_of paces (f x).target)) (leftover paces times (f x)) [] ≡ [] → Picked size picked m (i + 1)
      skipped e = record { few = omega (arith, s.few); size_is = s.size_is; taken = sym (append-nil _) ∙ taken_with [] e }

      pub picking_other : (component_of paces (f x).target ≡ g → ⊥) → Picked size picked m (i + 1)
      picking_other n = skipped (rw (among_other g _ n))

      module _ (of : component_of paces (f x).target ≡ g) where
        pub picking_nothing : leftover paces times (f x) ≡ [] → Picked size picked m (i + 1)
        picking_nothing e = skipped (rw (among_one g _ of) e)

        pub picking_left : {d : A} → leftover paces times (f x) ≡ f d ∷ [] → m < size → Picked size (set picked m d) (m + 1) (i + 1)
        picking_left {d = d} e room =
            record {
              few = omega (arith, s.few);
              size_is = length-set picked m d ∙ s.size_is;
              taken = ap (map f) (take_more_set picked m d (omega (arith, s.size_is))) ∙ map-append f (take m picked) (d ∷ []) ∙
                  taken_with (f d ∷ []) (rw (among_one g _ of) e);
            }

same_clause : {c d : Clause} → c.first ≡ d.first → c.others ≡ d.others → c.target ≡ d.target → c ≡ d
same_clause {c = c} {d = d} p q r =
    ap (λ (a : Arm). record c { first = a }) p ∙ ap (λ (l : List Arm). record { first = d.first; others = l; target = c.target }) q ∙
    ap (λ (n : ℕ). record d { target = n }) r

target_put : (c : Clause) (i : ℕ) (a : Arm) → (put_arm c i a).target ≡ c.target
unfolding put_arm
target_put c zero a = refl
target_put c (suc i) a = refl

-- the clause d is c with an own arm of number `first` in the place of those of its first i arms that are not own
module _ (paces : List Pace) (c : Clause) (first : ℕ) where
  abbrev in_place : Arm → Arm
  in_place b = own_or paces c (arm_at c first) b

  pub record Done (i : ℕ) (d : Clause) : Type 0 where
    pub size : length (arms_of d) ≡ length (arms_of c)
    pub target : d.target ≡ c.target
    pub before : (k : ℕ) → k < i → get_or (arms_of d) k c.first ≡ in_place (arm_at c k)
    pub after : (k : ℕ) → i ≤ k → get_or (arms_of d) k c.first ≡ arm_at c k

  pub done_none : Done 0 c
  done_none = record { size = refl; target = refl; before = λ k h. absurd (omega arith); after = λ k h. refl }

  own_same : (b : Arm) → own paces c b ≡ true → in_place b ≡ b
  own_same b e = rw e

  module _ {i : ℕ} {d : Clause} (s : Done i d) where
    pub done_own : own paces c (arm_at c i) ≡ true → Done (i + 1) d
    done_own e =
        record {
          size = s.size;
          target = s.target;
          before = below_more _ _ s.before (s.after i (omega arith) ∙ sym (own_same (arm_at c i) e));
          after = λ k h. s.after k (omega arith);
        }

    first_same : first < length (arms_of c) → own paces c (arm_at c first) ≡ true → arm_at d first ≡ arm_at c first
    first_same h o = get_or_default (arms_of d) first d.first c.first (omega (arith, s.size)) ∙ go (dec_lt first i)
      where
        go : Dec (first < i) → get_or (arms_of d) first c.first ≡ arm_at c first
        go (yes l) = s.before first l ∙ own_same (arm_at c first) o
        go (no l) = s.after first (omega arith)

    pub done_other : i < length (arms_of c) → first < length (arms_of c) → own paces c (arm_at c first) ≡ true → own paces c (arm_at c i) ≡ false →
        {e : Clause} → e ≡ put_arm d i (arm_at d first) → Done (i + 1) e
    done_other h k o n is =
        let a = arm_at d first in
        let other : a ≡ in_place (arm_at c i) = first_same k o ∙ (rw n) in
        let arms : arms_of (put_arm d i a) ≡ set (arms_of d) i a = arms_put d i a in
        let there : (j : ℕ) → (j ≡ i → ⊥) → get_or (arms_of (put_arm d i a)) j c.first ≡ get_or (arms_of d) j c.first =
        λ j n. ap (λ (l : List Arm). get_or l j c.first) arms ∙ get_or-set_other (arms_of d) i j a c.first n in
        rw is
        (record {
          size = ap length arms ∙ length-set (arms_of d) i a ∙ s.size;
          target = target_put d i a ∙ s.target;
          before = below_more _ _ (λ j l. there j (omega arith) ∙ s.before j l)
              (ap (λ (l : List Arm). get_or l i c.first) arms ∙ get_or-set_same (arms_of d) i a c.first (omega (arith, s.size)) ∙ other);
          after = λ j l. there j (omega arith) ∙ s.after j (omega arith);
        })

    pub done_with : length (arms_of c) ≤ i → d ≡ with_own paces (arm_at c first) c
    done_with h =
        let all : arms_of d ≡ map in_place (arms_of c) =
        ext_get_or c.first (arms_of d) (map in_place (arms_of c)) (s.size ∙ sym (length-map (arms_of c) in_place))
        (λ k l. s.before k (omega (arith, s.size)) ∙ sym (get_or-map in_place (arms_of c) k c.first c.first (omega (arith, s.size)))) in
        let firsts : d.first ≡ in_place c.first = cc in
        let rest : d.others ≡ map in_place c.others = cc in
        same_clause firsts rest s.target
