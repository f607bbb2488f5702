-- Which clauses may be violated: the bits of blocks, the readers of jobs, and what a pass leaves settled. Assumes nothing.
use Rattle.std.proofs.Common.{◌≡◌, sym, ap, subst, ◌∙◌, ◌⊎◌, inl, inr, ⊎_elim, ℕ, ◌+◌, ◌-◌, ◌*◌, ◌<◌, ◌≤◌, ◌/◌, ◌%◌, ◌^◌, List, length, get_or, set, take, drop, ℤ, bit_or, bit_xor, Result, Ok, Err, IfOk, arith, shl_exact, get_or-set_same, get_or-take, get_or-drop, length-take, length-drop}
use native.Mathlib.Decide.{dec_lt}
use lib.Seq.{take-length}
use Rattle.std.proofs.lemmas.Nat.Bits.{bit_at_xor, bit_at-pow_same, bit_at-pow_other}
use Rattle.maxatom.specs.Rule.{time_at, eq_z}
use Rattle.maxatom.specs.Clauses.{Clause, arms_of, Keeps}
use Rattle.maxatom.specs.Inner.{In, arm_at}
use Rattle.maxatom.specs.declared.Arm.{Arm}
use Rattle.maxatom.specs.Passes.{Walk}
use Rattle.maxatom.proofs.Choose.{clash}
use Rattle.maxatom.proofs.Integers.{by_test_not, eq_true, true_eq}
use Rattle.maxatom.proofs.Lists.{each_in, set_at, at_in, in_at}
use Rattle.maxatom.proofs.Walks.{Targets, Still, walk_low, still_kept, kept_still}
use Rattle.clauses.specs.Bits.{HasBlock}
use Rattle.clauses.specs.Passes.{Noted, PassEnds}
use Rattle.clauses.specs.declared.passing.Pass.{Pass}
use Rattle.clauses.specs.declared.passing.Stop.{Stop}
use Rattle.clauses.proofs.Passes.{or_left, or_right}
use Rattle.run.specs.Blocks.{ReadBefore, Reads, Settled}

-- the word with one bit, as the machine shifts it
pub bit_word : (k : ℕ) → k < 64 → 1 * 2 ^ k % 2 ^ 64 ≡ 2 ^ k
bit_word k h = shl_exact {a = 1} 1 k 64 (omega arith) (omega arith) ∙ omega arith

pub xor_other : (a k : ℕ) {b : ℕ} → (b ≡ k → ⊥) → HasBlock a b → HasBlock (bit_xor a (2 ^ k)) b
xor_other a k {b = b} h m = record { set = omega (arith, m.set, bit_at-pow_other k b h, bit_at_xor a (2 ^ k) b) }

-- one bit more in the word of a job
abbrev pub with_bit : List ℕ → ℕ → ℕ → List ℕ
with_bit readers job bit = set readers job (bit_or (get_or readers job 0) bit)

module _ (readers : List ℕ) (job bit : ℕ) where
  pub bit_kept : (q : ℕ) {b : ℕ} → HasBlock (get_or readers q 0) b → HasBlock (get_or (with_bit readers job bit) q 0) b
  bit_kept q {b = b} m =
      set_at (λ (w : ℕ). HasBlock w b) readers 0 job q (bit_or (get_or readers job 0) bit) m (λ e. or_left (get_or readers job 0) bit (subst (λ (n : ℕ). HasBlock (get_or readers n 0) b) (sym e) m))

  pub bit_new : (block : ℕ) → job < length readers → bit ≡ 2 ^ block → HasBlock (get_or (with_bit readers job bit) job 0) block
  bit_new block h e =
      rw (get_or-set_same readers job (bit_or (get_or readers job 0) bit) 0 h) (or_right (get_or readers job 0) bit (rw e (record { set = bit_at-pow_same block })))

module _ {cs : List Clause} {readers : List ℕ} {n : ℕ} (r : ReadBefore n cs readers) where
  pub read_kept : (job bit : ℕ) → ReadBefore n cs (with_bit readers job bit)
  read_kept job bit = record { has = λ c i h a among. bit_kept readers job bit a.job (r.has c i h a among) }

  -- one clause more, where the words of its arms' jobs have the bit of its block
  pub read_more : (d : Clause) → ((c : Clause) → get_or cs n c ≡ d) → ((j : ℕ) → j < length (arms_of d) → HasBlock (get_or readers (arm_at d j).job 0) (n / 16)) → ReadBefore (n + 1) cs readers
  read_more d is has = record { has = λ c i h a among. go c i h a among (dec_lt i n) }
    where
      go : (c : Clause) (i : ℕ) → i < n + 1 → (a : Arm) → In a (arms_of (get_or cs i c)) → Dec (i < n) → HasBlock (get_or readers a.job 0) (i / 16)
      go c i h a among (yes l) = r.has c i l a among
      go c i h a among (no l) =
          let e : n ≡ i = omega arith in
          let place = in_at d.first (subst (λ (x : Clause). In a (arms_of x)) (subst (λ (m : ℕ). get_or cs m c ≡ d) e (is c)) among) in
          subst (λ (m : ℕ). HasBlock (get_or readers a.job 0) (m / 16)) e (subst (λ (x : Arm). HasBlock (get_or readers x.job 0) (n / 16)) place.2 (has place.0 place.1))

same_time : (s t : ℤ) → ((s ≡ t → ⊥) → ⊥) → s ≡ t
same_time s t h = eq_true s t (by_test_not (eq_z s t) (λ e. h (λ q. clash (true_eq s t q) e)))

-- a clause of a stretch
in_stretch : (cs : List Clause) (from n i : ℕ) (c : Clause) → from ≤ i → i < from + n → i < length cs → In (get_or cs i c) (take n (drop from cs))
in_stretch cs from n i c low high h =
    subst (λ (x : Clause). In x (take n (drop from cs)))
    (get_or-take n (drop from cs) (i - from) c (omega arith) ∙ (get_or-drop from cs (i - from) c ∙ ap (λ (m : ℕ). get_or cs m c) (omega arith)))
    (at_in (take n (drop from cs)) (i - from) c (omega (arith, length-take n (drop from cs), length-drop from cs)))

module _ (floor : ℤ) {cs : List Clause} {readers : List ℕ} (b b' : List ℤ) (before : ℕ) (reads : Reads cs readers) (targets : Targets b cs) where
  -- after a pass over a stretch of the clauses, a clause whose block has no bit is kept: no job of its arms changed, and it was passed over,
  -- or it was kept before
  pub settle : {after k : ℕ} → Noted readers b b' before after → (from n : ℕ) → Walk floor (take n (drop from cs)) b b' k →
      ((c : Clause) (i : ℕ) → i < length cs → (i < from) ⊎ (from + n ≤ i) → (HasBlock before (i / 16) → ⊥) → Keeps (time_at b) (get_or cs i c)) → Settled cs b' after
  settle {after = after} noted from n w outside =
      record {
        kept = λ c i h clean. go c i h clean (λ a among. same_time _ _ (λ changed. clean (noted.read a.job (i / 16) changed (reads.has c i h a among)))) (dec_lt i from) (dec_lt i (from + n));
      }
    where
      go : (c : Clause) (i : ℕ) → i < length cs → (HasBlock after (i / 16) → ⊥) → Still b b' (get_or cs i c) → Dec (i < from) → Dec (i < from + n) → Keeps (time_at b') (get_or cs i c)
      go c i h clean still (no low) (yes high) =
          still_kept w (in_stretch cs from n i c (omega arith) high h) (each_in (λ (x : Clause). x.target < length b) cs targets (at_in cs i c h)) still
      go c i h clean still (yes low) high = kept_still b b' (get_or cs i c) (outside c i h (inl low) (λ m. clean (noted.stay (i / 16) m))) (walk_low w) still
      go c i h clean still (no low) (no high) = kept_still b b' (get_or cs i c) (outside c i h (inr (omega arith)) (λ m. clean (noted.stay (i / 16) m))) (walk_low w) still

  -- and after one over all of them
  pub pass_settled : (steps : ℕ) (r : Result Pass Stop) → PassEnds floor cs b steps b' r → IfOk r (λ p. Noted readers b b' before p.dirty) → IfOk r (λ p. Settled cs b' p.dirty)
  pass_settled steps (Ok p) w noted =
      settle noted 0 (length cs) (subst (λ (l : List Clause). Walk floor l b b' w.made) (sym (take-length cs)) w.walk)
      (λ c i h out clean. ⊎_elim (λ low. absurd (omega arith)) (λ high. absurd (omega arith)) out)
  pass_settled steps (Err e) w noted = tt
