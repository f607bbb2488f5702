-- Components: clauses that share no job advance each component for itself, and a clause that cannot matter in a pass may be left out of it,
-- by what is said of the times before and after that pass. Over clauses with any number of arms. Assumes nothing.
use mathlib.Core.Path.{◌≡◌, refl, sym, subst, ◌∙◌}
use mathlib.Core.List.{List, [], ◌∷◌}
use mathlib.Core.Logic.{◌⊎◌, ⊎_elim}
use Prim.Native.Nat.{ℕ, zero, suc, ◌+◌, ◌≤◌, ◌<◌}
use native.Mathlib.Omega.{arith}
use lib.ListN.{length, set, length-set}
use lib.Seq.{ext_get_or}
use lib.IntN.{ℤ, pos}
use lib.Signed.{◌≤ℤ◌, ◌<ℤ◌}
use Rattle.maxatom.specs.Rule.{time_at}
use Rattle.maxatom.specs.Book.{Each}
use Rattle.maxatom.specs.Clauses.{Clause, Assignment, left_of, Keeps, stepped}
use Rattle.maxatom.specs.Inner.{In}
use Rattle.maxatom.specs.declared.Arm.{Arm}
use Rattle.maxatom.specs.Passes.{Walk, done, keep, lower, Passing, Traced, start, round}
use Rattle.maxatom.proofs.Integers.{le_make, ≤ℤ-trans}
use Rattle.maxatom.proofs.Lists.{set_time}
use Rattle.maxatom.proofs.Clauses.{Below, left_mono}
use Rattle.maxatom.proofs.Walks.{same_greatest, step_low, walk_low}

-- all jobs of a clause are in a component
pub record Within (P : ℕ → Type 0) (c : Clause) : Type 0 where
  pub arms : {a : Arm} → In a (c.first ∷ c.others) → P a.job
  pub target : P c.target

-- clauses in their order, each of the one component or of the other
pub data Merged (P Q : ℕ → Type 0) : List Clause → List Clause → List Clause → Type 0 where
  nothing : Merged P Q [] [] []
  left : {c : Clause} {cs l r : List Clause} → Within P c → Merged P Q cs l r → Merged P Q (c ∷ cs) (c ∷ l) r
  right : {c : Clause} {cs l r : List Clause} → Within Q c → Merged P Q cs l r → Merged P Q (c ∷ cs) l (c ∷ r)

-- from b down to e the second clauses decide as the first: a clause that is kept throughout is left out, and one with the same left side
-- stands for another
pub data Trimmed (b e : Assignment) : List Clause → List Clause → Type 0 where
  nothing : Trimmed b e [] []
  drop : {c : Clause} {cs ds : List Clause} → ((t : Assignment) → Below e t → Below t b → Keeps t c) → Trimmed b e cs ds → Trimmed b e (c ∷ cs) ds
  swap : {c d : Clause} {cs ds : List Clause} → c.target ≡ d.target → ((t : Assignment) → Below e t → Below t b → left_of t c ≡ left_of t d) →
      Trimmed b e cs ds → Trimmed b e (c ∷ cs) (d ∷ ds)

-- kept throughout: at the start of the target and the end of the arms
pub kept_between : {b e : Assignment} (c : Clause) → b c.target ≤ℤ left_of e c → (t : Assignment) → Below e t → Below t b → Keeps t c
kept_between {e = e} c h t low high = ≤ℤ-trans (high c.target) (≤ℤ-trans h (left_mono c e t low))

-- the same walk, its steps counted otherwise
walked : {floor : ℤ} {cs : List Clause} {a b : List ℤ} {s k : ℕ} → s ≡ k → Walk floor cs a b s → Walk floor cs a b k
walked {floor = floor} {cs = cs} {a = a} {b = b} e w = subst (λ (n : ℕ). Walk floor cs a b n) e w

-- traced passes: what is said at their ends, and less of them
module _ {floor : ℤ} {cs : List Clause} {least : ℕ} {P : ℕ → Type 0} {S : ℕ → ℕ → ℤ → Type 0} where
  pub trace_start : {a b : List ℤ} {p s : ℕ} → Traced floor cs least P S a b p s → (job : ℕ) → P job → S job 0 (time_at a job)
  trace_start (start said) = said
  trace_start (round m w h said) = trace_start m

  pub trace_end : {a b : List ℤ} {p s : ℕ} → Traced floor cs least P S a b p s → (job : ℕ) → P job → S job p (time_at b job)
  trace_end (start said) = said
  trace_end (round m w h said) = said

  -- nothing is said
  pub forget : {a b : List ℤ} {p s : ℕ} → Traced floor cs least P S a b p s → Passing floor cs least a b p s
  forget (start said) = start
  forget (round m w h said) = round (forget m) w h

  -- fewer steps a pass are asked, and something said of fewer jobs
  pub lessen : {n : ℕ} → n ≤ least → {P' : ℕ → Type 0} → ((job : ℕ) → P' job → P job) → {a b : List ℤ} {p s : ℕ} → Traced floor cs least P S a b p s →
      Traced floor cs n P' S a b p s
  lessen f h (start said) = start (λ job q. said job (h job q))
  lessen f h (round m w k said) = round (lessen f h m) w (omega arith) (λ job q. said job (h job q))

  pub narrow : {P' : ℕ → Type 0} → ((job : ℕ) → P' job → P job) → {a b : List ℤ} {p s : ℕ} → Traced floor cs least P S a b p s → Traced floor cs least P' S a b p s
  narrow h m = lessen (omega arith) h m

  -- the same passes, counted otherwise
  pub recounted : {a b : List ℤ} {p q s k : ℕ} → p ≡ q → s ≡ k → Traced floor cs least P S a b p s → Traced floor cs least P S a b q k
  recounted {a = a} {b = b} {q = q} {s = s} e d m =
      subst (λ (n : ℕ). Traced floor cs least P S a b q n) d (subst (λ (n : ℕ). Traced floor cs least P S a b n s) e m)

-- two assignments agree on a component
record Agree (P : ℕ → Type 0) (u w : List ℤ) : Type 0 where
  size : length u ≡ length w
  at : (job : ℕ) → P job → time_at u job ≡ time_at w job

itself : {P : ℕ → Type 0} (u : List ℤ) → Agree P u u
itself u = record { size = refl; at = λ job p. refl }

turned : {P : ℕ → Type 0} {u w : List ℤ} → Agree P u w → Agree P w u
turned a = record { size = sym a.size; at = λ job p. sym (a.at job p) }

-- v is stored in both, or in the second outside the component
set_both : (u w : List ℤ) (i job : ℕ) (v : ℤ) → length u ≡ length w → time_at u job ≡ time_at w job → time_at (set u i v) job ≡ time_at (set w i v) job
set_both [] [] i job v n e = e
set_both [] (y ∷ w) i job v n e = absurd (omega arith)
set_both (x ∷ u) [] i job v n e = absurd (omega arith)
set_both (x ∷ u) (y ∷ w) zero zero v n e = refl
set_both (x ∷ u) (y ∷ w) zero (suc job) v n e = e
set_both (x ∷ u) (y ∷ w) (suc i) zero v n e = e
set_both (x ∷ u) (y ∷ w) (suc i) (suc job) v n e = set_both u w i job v (omega arith) e

module _ {P : ℕ → Type 0} {u w : List ℤ} (a : Agree P u w) where
  both : (i : ℕ) (v : ℤ) → Agree P (set u i v) (set w i v)
  both i v =
      record {
        size = length-set u i v ∙ (a.size ∙ sym (length-set w i v));
        at = λ job p. set_both u w i job v a.size (a.at job p);
      }

  other : (i : ℕ) (v : ℤ) → (P i → ⊥) → Agree P u (set w i v)
  other i v out =
      record {
        size = a.size ∙ sym (length-set w i v);
        at = λ job p. set_time (λ (t : ℤ). time_at u job ≡ t) w i job v (a.at job p) (λ e. absurd (out (subst P (sym e) p)));
      }

-- walks and passes change nothing where they have no target
module _ {O : ℕ → Type 0} {floor : ℤ} where
  walk_out : {cs : List Clause} {a b b' : List ℤ} {s : ℕ} → Each (λ c. O c.target → ⊥) cs → Walk floor cs b b' s → Agree O a b → Agree O a b'
  walk_out e done h = h
  walk_out e (keep k w) h = walk_out e.1 w h
  walk_out e (lower {c = c} v f w) h = walk_out e.1 w (other h c.target _ e.0)

  pass_out : {cs : List Clause} {least : ℕ} {a b : List ℤ} {p s : ℕ} → Each (λ c. O c.target → ⊥) cs → Passing floor cs least a b p s → Agree O a b
  pass_out e (start {b = b}) = itself b
  pass_out e (round l w h) = walk_out e w (pass_out e l)

-- a clause within the component decides alike, and its step keeps the agreement
module _ {P : ℕ → Type 0} {u w : List ℤ} {c : Clause} (i : Within P c) (a : Agree P u w) where
  same_left : left_of (time_at u) c ≡ left_of (time_at w) c
  same_left = same_greatest (time_at u) (time_at w) c.first c.others (λ b j. a.at b.job (i.arms j))

  same_target : time_at u c.target ≡ time_at w c.target
  same_target = a.at c.target i.target

  keep_too : Keeps (time_at u) c → {floor : ℤ} {cs : List Clause} {w' : List ℤ} {s : ℕ} → Walk floor cs w w' s → Walk floor (c ∷ cs) w w' s
  keep_too k x = keep (rw (same_left, same_target) at k) x

  lower_too : {floor : ℤ} → left_of (time_at u) c <ℤ time_at u c.target → floor ≤ℤ left_of (time_at u) c → {cs : List Clause} {w' : List ℤ} {s : ℕ} →
      Walk floor cs (stepped w c) w' s → Walk floor (c ∷ cs) w w' (s + 1)
  lower_too v f x = lower (rw (same_left, same_target) at v) (rw same_left at f) x

  step_too : Agree P (stepped u c) (stepped w c)
  step_too = rw same_left (both a c.target (left_of (time_at w) c))

-- a walk or passes from w: they agree with the one component's on the component, with the other's elsewhere
record Side (P : ℕ → Type 0) (u v : List ℤ) (Goes : List ℤ → Type 0) : Type 0 where
  after : List ℤ
  goes : Goes after
  on : Agree P u after
  off : Agree (λ job. P job → ⊥) v after

module _ {P Q : ℕ → Type 0} (disjoint : (job : ℕ) → P job → Q job → ⊥) where
  abbrev Out : ℕ → Type 0
  Out job = P job → ⊥

  outside : {c : Clause} → Within Q c → Within Out c
  outside i = record { arms = λ j p. disjoint _ p (i.arms j); target = λ p. disjoint _ p i.target }

  lefts : {cs l r : List Clause} → Merged P Q cs l r → Each (λ c. Out c.target → ⊥) l
  lefts nothing = tt
  lefts (left i m) = ((λ o. o i.target), lefts m)
  lefts (right i m) = lefts m

  rights : {cs l r : List Clause} → Merged P Q cs l r → Each (λ c. P c.target → ⊥) r
  rights nothing = tt
  rights (left i m) = rights m
  rights (right i m) = ((λ p. disjoint _ p i.target), rights m)

  -- what is said of the jobs of each component is said of both
  of_both : (S : ℕ → ℕ → ℤ → Type 0) {u v w : List ℤ} {i j : ℕ} → i ≡ j → Agree P u w → Agree Out v w → ((job : ℕ) → P job → S job i (time_at u job)) →
      ((job : ℕ) → Q job → S job j (time_at v job)) → (job : ℕ) → P job ⊎ Q job → S job i (time_at w job)
  of_both S {v = v} {i = i} e a o x y job =
      ⊎_elim (λ h. subst (λ (t : ℤ). S job i t) (a.at job h) (x job h))
      (λ h. subst (λ (t : ℤ). S job i t) (o.at job (λ g. disjoint job g h)) (subst (λ (n : ℕ). S job n (time_at v job)) (sym e) (y job h)))

  module _ {floor : ℤ} where
    side : {cs l r : List Clause} → Merged P Q cs l r → {u u' v v' w : List ℤ} {s k : ℕ} → Walk floor l u u' s → Walk floor r v v' k →
        Agree P u w → Agree Out v w → Side P u' v' (λ w'. Walk floor cs w w' (s + k))
    side nothing done done a o = record { after = _; goes = done; on = a; off = o }
    side (left i m) (keep k x) y a o =
        let n = side m x y a o in
        record { after = n.after; goes = keep_too i a k n.goes; on = n.on; off = n.off }
    side (left {c = c} i m) (lower v f x) y a o =
        let n = side m x y (step_too i a) (other o c.target _ (λ out. out i.target)) in
        record { after = n.after; goes = walked (omega arith) (lower_too i a v f n.goes); on = n.on; off = n.off }
    side (right i m) x (keep k y) a o =
        let n = side m x y a o in
        record { after = n.after; goes = keep_too (outside i) o k n.goes; on = n.on; off = n.off }
    side (right {c = c} i m) x (lower v f y) a o =
        let n = side m x y (other a c.target _ (outside i).target) (step_too (outside i) o) in
        record { after = n.after; goes = walked (omega arith) (lower_too (outside i) o v f n.goes); on = n.on; off = n.off }

    sides : {cs l r : List Clause} → Merged P Q cs l r → {S : ℕ → ℕ → ℤ → Type 0} {least least' : ℕ} {u u' v v' w : List ℤ} {p q s k : ℕ} → p ≡ q →
        Traced floor l least P S u u' p s → Traced floor r least' Q S v v' q k → Agree P u w → Agree Out v w →
        Side P u' v' (λ w'. Traced floor cs (least + least') (λ job. P job ⊎ Q job) S w w' p (s + k))
    sides m {S = S} e (start x) (start y) a o = record { after = _; goes = start (of_both S refl a o x y); on = a; off = o }
    sides m e (start x) (round y w h g) a o = absurd (omega arith)
    sides m e (round x w h g) (start y) a o = absurd (omega arith)
    sides m {S = S} e (round x w h g) (round y w' h' g') a o =
        let n = sides m (omega arith) x y a o in
        let t = side m w w' n.on n.off in
        record {
          after = t.after;
          goes = recounted refl (omega arith) (round n.goes t.goes (omega arith) (of_both S e t.on t.off g g'));
          on = t.on;
          off = t.off;
        }

    -- passes over the one component and as many over the other are as many over both
    pub merged : ((job : ℕ) → Dec (P job)) → {cs l r : List Clause} → Merged P Q cs l r → {S : ℕ → ℕ → ℤ → Type 0} {least least' : ℕ} {a b d : List ℤ} {p s k : ℕ} →
        Traced floor l least P S a b p s → Traced floor r least' Q S b d p k → Traced floor cs (least + least') (λ job. P job ⊎ Q job) S a d p (s + k)
    merged dec {cs = cs} m {S = S} {least = least} {least' = least'} {a = a} {b = b} {d = d} {p = p} {s = s} {k = k} x y =
        let n = sides m refl x y (itself a) (turned (pass_out (lefts m) (forget x))) in
        let still = pass_out (rights m) (forget y) in
        subst (λ (w : List ℤ). Traced floor cs (least + least') (λ job. P job ⊎ Q job) S a w p (s + k))
        (ext_get_or (pos 0) n.after d (sym n.off.size) (λ job h. go n still job (dec job))) n.goes
      where
        go : {G : List ℤ → Type 0} (n : Side P b d G) → Agree P b d → (job : ℕ) → Dec (P job) → time_at n.after job ≡ time_at d job
        go n still job (yes h) = sym (n.on.at job h) ∙ still.at job h
        go n still job (no h) = sym (n.off.at job h)

-- passes only lower
pub passing_low : {floor : ℤ} {cs : List Clause} {least : ℕ} {a b : List ℤ} {p s : ℕ} → Passing floor cs least a b p s → Below (time_at b) (time_at a)
passing_low start job = le_make (omega arith)
passing_low (round l w h) job = ≤ℤ-trans (walk_low w job) (passing_low l job)

module _ {floor : ℤ} where
  trim_walk : {b e : Assignment} {cs ds : List Clause} {x y : List ℤ} {s : ℕ} → Trimmed b e cs ds → Walk floor ds x y s → Below (time_at x) b → Below e (time_at y) →
      Walk floor cs x y s
  trim_walk nothing done u l = done
  trim_walk {x = x} (drop h t) w u l =
      keep (h (time_at x) (λ job. ≤ℤ-trans (l job) (walk_low w job)) u) (trim_walk t w u l)
  trim_walk {x = x} (swap {c = c} q f t) (keep k w) u l =
      let same = f (time_at x) (λ job. ≤ℤ-trans (l job) (walk_low w job)) u in
      keep {c = c} {b = x} (rw (q, same) k) (trim_walk t w u l)
  trim_walk {x = x} {y = y} (swap {c = c} {d = d} {cs = cs} q f t) (lower {s = s} v h w) u l =
      let down = step_low x d v in
      let same = f (time_at x) (λ job. ≤ℤ-trans (l job) (≤ℤ-trans (walk_low w job) (down job))) u in
      let rest : Walk floor cs (stepped x c) y s = rw (q, same) (trim_walk t w (λ job. ≤ℤ-trans (down job) (u job)) l) in
      lower {c = c} {b = x} (rw (q, same) v) (rw same h) rest

  -- passes over what is left in each are passes over all
  pub trimmed : {cs ds : List Clause} {least : ℕ} {P : ℕ → Type 0} {S : ℕ → ℕ → ℤ → Type 0} {b e : List ℤ} {p s : ℕ} →
      ((i : ℕ) → i < p → (u w : List ℤ) → ((job : ℕ) → P job → S job i (time_at u job)) → ((job : ℕ) → P job → S job (i + 1) (time_at w job)) →
      Trimmed (time_at u) (time_at w) cs ds) →
      Traced floor ds least P S b e p s → Passing floor cs least b e p s
  trimmed t (start said) = start
  trimmed t (round {b' = u} {b'' = v} {p = p} m w h said) =
      let now = trim_walk (t p (omega arith) u v (trace_end m) said) w (λ job. le_make (omega arith)) (λ job. le_make (omega arith)) in
      round (trimmed (λ i l. t i (omega arith)) m) now h

  -- fewer steps a pass are asked
  pub weaken : {cs : List Clause} {n least : ℕ} {a b : List ℤ} {p s : ℕ} → n ≤ least → Passing floor cs least a b p s → Passing floor cs n a b p s
  weaken h start = start
  weaken h (round m w k) = round (weaken h m) w (omega arith)

  still : {cs : List Clause} {b b' : List ℤ} {s : ℕ} → s ≡ 0 → Walk floor cs b b' s → b' ≡ b
  still e done = refl
  still e (keep k w) = still e w
  still e (lower v f w) = absurd (omega arith)

  -- a walk without a step changes nothing, and may be repeated
  pub settled : {cs : List Clause} {b b' : List ℤ} → Walk floor cs b b' 0 → (b' ≡ b) ×
      ((p : ℕ) (P : ℕ → Type 0) (S : ℕ → ℕ → ℤ → Type 0) → ((i : ℕ) → i ≤ p → (job : ℕ) → P job → S job i (time_at b job)) → Traced floor cs 0 P S b b p 0)
  settled {cs = cs} {b = b} w = (still refl w, λ p P S said. again p said)
    where
      again : (p : ℕ) {P : ℕ → Type 0} {S : ℕ → ℕ → ℤ → Type 0} → ((i : ℕ) → i ≤ p → (job : ℕ) → P job → S job i (time_at b job)) → Traced floor cs 0 P S b b p 0
      again zero said = start (said 0 (omega arith))
      again (suc p) said =
          recounted (omega arith) refl
          (round (again p (λ i l. said i (omega arith))) (subst (λ (x : List ℤ). Walk floor cs b x 0) (still refl w) w) (omega arith) (said (p + 1) (omega arith)))
