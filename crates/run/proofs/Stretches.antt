-- A pass over one stretch of the clauses after another, block by block. Assumes nothing.
use Rattle.std.proofs.Common.{◌≡◌, refl, sym, ap, subst, ◌∙◌, ⊎_elim, ℕ, suc, ◌+◌, ◌-◌, ◌*◌, ◌<◌, ◌≤◌, ◌/◌, min, List, [], ◌∷◌, map, length, get_or, take, drop, ℤ, Err, arith, take-add, take-take, get_or-take, get_or-drop, length-take, length-drop}
use lib.ListN.{length-map}
use lib.Seq.{take_all}
use Rattle.std.proofs.lemmas.List.{take-map, drop-map, take_min}
use Rattle.maxatom.specs.Rule.{time_at}
use Rattle.maxatom.specs.Book.{Each}
use Rattle.maxatom.specs.Clauses.{Clause, Keeps}
use Rattle.maxatom.specs.Passes.{Walk, done, keep}
use Rattle.maxatom.proofs.Lists.{each_map, each_take, each_drop}
use Rattle.maxatom.proofs.Walks.{Targets, walk_join, walk_few}
use Rattle.clauses.specs.Bits.{HasBlock}
use Rattle.clauses.specs.Passes.{InTimes, Walked, Falls, Noted, PassEnds}
use Rattle.clauses.specs.declared.passing.Stop.{Stop}
use Rattle.run.specs.Blocks.{Reads, Settled}
use Rattle.run.proofs.Settling.{settle}

pub targets_in : (cs : List Clause) (b times : List ℤ) → length b ≡ length times → InTimes cs times → Targets b cs
targets_in cs b times size e = each_map _ _ cs (λ c i. omega (arith, i.target, size)) e

stretch_is : {A : Type 0} (f : A → Clause) (l : List A) (from n : ℕ) → map f (take n (drop from l)) ≡ take n (drop from (map f l))
stretch_is f l from n = sym (take-map f n (drop from l)) ∙ ap (λ (m : List Clause). take n m) (sym (drop-map f from l))

pub each_stretch : {A : Type 0} (f : A → Clause) (l : List A) (from n : ℕ) (P : Clause → Type 0) → Each P (map f l) → Each P (map f (take n (drop from l)))
each_stretch f l from n P e = subst (λ (m : List Clause). Each P m) (sym (stretch_is f l from n)) (each_take P (drop from (map f l)) n (each_drop P (map f l) from e))

-- clauses that are all kept
kept_walk : {floor : ℤ} {b : List ℤ} (cs : List Clause) → ((c : Clause) (i : ℕ) → i < length cs → Keeps (time_at b) (get_or cs i c)) → Walk floor cs b b 0
kept_walk [] h = done
kept_walk (c ∷ cs) h = keep (h c 0 (omega arith)) (kept_walk cs (λ d i k. h d (suc i) (omega arith)))

-- the blocks before one are passed over
module _ {A : Type 0} (f : A → Clause) (l : List A) {floor : ℤ} {b₀ b : List ℤ} {s₀ s : ℕ} (block : ℕ) (w : Walked floor (take (block * 16) (map f l)) b₀ b s₀ s) where
  abbrev rest : List Clause
  rest = drop (block * 16) (map f l)

  pub few_over : s ≤ s₀ + length l
  few_over = omega (arith, w.counted, walk_few w.walk, length-take (block * 16) (map f l), length-map l f)

  -- all blocks are passed over
  pub all_over : length l ≤ block * 16 → Walked floor (map f l) b₀ b s₀ s
  all_over h = subst (λ (cs : List Clause). Walked floor cs b₀ b s₀ s) (take_all (block * 16) (map f l) (omega (arith, length-map l f))) w

  -- n clauses of the next block are passed over too
  over : {b' : List ℤ} {s' : ℕ} (n m : ℕ) → block * 16 + n ≡ m → Walked floor (take n rest) b b' s s' → Walked floor (take m (map f l)) b₀ b' s₀ s'
  over {b' = b'} n m e v =
      record {
        made = w.made + v.made;
        counted = omega (arith, w.counted, v.counted);
        walk = subst (λ (cs : List Clause). Walk floor cs b₀ b' (w.made + v.made)) (sym (take-add (block * 16) n (map f l)) ∙ ap (λ (i : ℕ). take i (map f l)) e) (walk_join w.walk v.walk);
      }

  module _ {to : ℕ} (is : to ≡ min (block * 16 + 16) (length l)) where
    abbrev stretch : List Clause
    stretch = map f (take (to - block * 16) (drop (block * 16) l))

    same : stretch ≡ take 16 rest
    same =
        stretch_is f l (block * 16) (to - block * 16)
        ∙ (sym (take_min (to - block * 16) rest) ∙ (ap (λ (i : ℕ). take i rest) (omega (arith, is, length-drop (block * 16) (map f l), length-map l f)) ∙ take_min 16 rest))

    -- the next block is passed over too
    pub block_over : {b' : List ℤ} {s' : ℕ} → Walked floor stretch b b' s s' → Walked floor (take ((block + 1) * 16) (map f l)) b₀ b' s₀ s'
    block_over v = over 16 ((block + 1) * 16) (omega arith) (rw same at v)

    pub block_settled : {readers : List ℕ} {dirty cleaned after s' : ℕ} {b' : List ℤ} → Settled (map f l) b dirty → ((k : ℕ) → (k ≡ block → ⊥) → HasBlock dirty k → HasBlock cleaned k) → Reads (map f l) readers →
        Targets b (map f l) → Walked floor stretch b b' s s' → Noted readers b b' cleaned after → Settled (map f l) b' after
    block_settled {cleaned = cleaned} {b' = b'} settled cleans reads targets v noted =
        settle floor b b' cleaned reads targets noted (block * 16) 16 (rw same at v.walk)
        (λ c i k out clean. settled.kept c i k (λ m. clean (cleans (i / 16) (λ e. ⊎_elim (λ low. omega arith) (λ high. omega arith) out) m)))

    -- a fall in it ends the pass
    pub block_fell : {b' : List ℤ} (e : Stop) → PassEnds floor stretch b s b' (Err e) → PassEnds floor (map f l) b₀ s₀ b' (Err (record { at = block * 16 + e.at; steps = e.steps }))
    block_fell {b' = b'} e ended =
        let here = rw same at ended in
        let inside : e.at < 16 = omega (arith, here.0, length-take 16 rest) in (
          omega (arith, here.0, length-take 16 rest, length-drop (block * 16) (map f l)),
          over e.at (block * 16 + e.at) refl (subst (λ (cs : List Clause). Walked floor cs b b' s e.steps) (take-take e.at 16 rest (omega arith)) here.1),
          λ c. subst (λ (d : Clause). Falls floor d b') (get_or-take 16 rest e.at c inside ∙ get_or-drop (block * 16) (map f l) e.at c) (here.2 c),
        )

  -- a block that is not dirty is passed over, as if its clauses were looked at
  pub block_kept : {dirty : ℕ} → Settled (map f l) b dirty → (HasBlock dirty block → ⊥) → Walked floor (take ((block + 1) * 16) (map f l)) b₀ b s₀ s
  block_kept {dirty = dirty} settled clean =
      over 16 ((block + 1) * 16) (omega arith)
      (record {
        made = 0;
        counted = omega arith;
        walk = kept_walk (take 16 rest)
            (λ c i k. let inside : i < 16 = omega (arith, k, length-take 16 rest) in
            subst (λ (d : Clause). Keeps (time_at b) d) (sym (get_or-take 16 rest i c inside ∙ get_or-drop (block * 16) (map f l) i c))
            (settled.kept c (block * 16 + i) (omega (arith, k, length-take 16 rest, length-drop (block * 16) (map f l))) (λ m. clean (subst (λ (j : ℕ). HasBlock dirty j) (omega arith) m))));
      })
