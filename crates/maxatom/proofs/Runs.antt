-- A run pass by pass: what passes with a step each leave of it, and how it ends. Over clauses with any number of arms. Assumes nothing.
use mathlib.Core.Path.{◌≡◌, refl, sym, ap, subst, ◌∙◌}
use mathlib.Core.Bool.{cond}
use mathlib.Core.List.{List}
use Prim.Native.Nat.{ℕ, suc, ◌+◌, ◌-◌, ◌≤◌, ◌<◌}
use native.Mathlib.Omega.{arith}
use lib.ListN.{length}
use lib.IntN.{ℤ}
use lib.Dec.{eqb}
use borrow.Author.Tests.{eq-eqb, ne_eqb}
use Rattle.std.specs.Prelude.{Some, None}
use Rattle.maxatom.specs.Book.{Each}
use Rattle.maxatom.specs.Clauses.{Clause}
use Rattle.maxatom.specs.declared.Slip.{Slip}
use Rattle.maxatom.specs.Passes.{Walk, Passing, start, round}
use Rattle.maxatom.specs.Runs.{Pass, pass, End, planned, fell, Run, passes, room}
use Rattle.maxatom.proofs.Choose.{cond_yes, cond_no}
use Rattle.maxatom.proofs.Walks.{High, Targets, walk_size, walk_high, walk_room, walk_pass}

module _ {floor : ℤ} {cs : List Clause} where
  -- passes keep what a walk keeps
  pub passing_size : {b b' : List ℤ} {p k : ℕ} → Passing floor cs 1 b b' p k → length b' ≡ length b
  passing_size start = refl
  passing_size (round l w h) = walk_size w ∙ passing_size l

  pub passing_high : {b b' : List ℤ} {p k : ℕ} → Passing floor cs 1 b b' p k → High floor b → High floor b'
  passing_high start up = up
  passing_high (round l w h) up = walk_high w (passing_high l up)

  -- each pass takes a minute or more off the room
  pub passing_room : {b b' : List ℤ} {p k : ℕ} → Passing floor cs 1 b b' p k → Targets b cs → High floor b → (room floor b' + k ≤ room floor b) × (p ≤ k)
  passing_room start e up = (omega arith, omega arith)
  passing_room (round l w h) e up =
      let r = passing_room l e up in
      let s = walk_room w (subst (λ (n : ℕ). Each (λ (c : Clause). c.target < n) cs) (sym (passing_size l)) e) (passing_high l up) in
      (omega (arith, r.0, s), omega (arith, r.1))

-- w is how the run ends from times b, after s steps, however many passes it may make, if they are more than the minutes of the room
pub record Ends (floor : ℤ) (cs : List Clause) (b : List ℤ) (s : ℕ) (w : Run) : Type 0 where
  pub at : (n : ℕ) → room floor b < n → w ≡ passes n floor cs b s

module _ (floor : ℤ) (cs : List Clause) (n s : ℕ) where
  -- the run after its first pass, which left p
  abbrev after : Pass → Run
  after p =
      let ended : End → Run = λ end. record { times = p.times; steps = p.steps; end = end } in
      elim p.fallen [ Some slip ↦ ended (fell slip) | None ↦ cond (eqb p.steps s) (ended planned) (passes n floor cs p.times p.steps) ]

  first_pass : (b : List ℤ) {p : Pass} → pass floor cs b s ≡ p → passes (suc n) floor cs b s ≡ after p
  unfolding passes
  first_pass b e = ap after e

module _ {floor : ℤ} {cs : List Clause} where
  more : {b : List ℤ} {s : ℕ} {w : Run} → ((n : ℕ) → w ≡ passes (suc n) floor cs b s) → Ends floor cs b s w
  more {b = b} {s = s} {w = w} f = record { at = λ n h. subst (λ (m : ℕ). w ≡ passes m floor cs b s) (omega arith) (f (n - 1)) }

  -- a fall ends the run
  pub ends_fell : {b b' : List ℤ} {s s' : ℕ} {slip : Slip} → pass floor cs b s ≡ record { times = b'; steps = s'; fallen = Some slip } →
      Ends floor cs b s (record { times = b'; steps = s'; end = fell slip })
  ends_fell {b = b} {s = s} said = more (λ n. sym (first_pass floor cs n s b said))

  -- and so does a pass without a step
  pub ends_planned : {b b' : List ℤ} (s : ℕ) → Walk floor cs b b' 0 → Ends floor cs b s (record { times = b'; steps = s; end = planned })
  ends_planned {b = b} {b' = b'} s w =
      more
      (λ n. sym
      (first_pass floor cs n s b (walk_pass s w)
      ∙ (cond_yes _ _ (eq-eqb (s + 0) s (omega arith)) ∙ ap (λ (i : ℕ). record { times = b'; steps = i; end = planned }) (omega arith))))

  passes_after : {b b' : List ℤ} {p k : ℕ} → Passing floor cs 1 b b' p k → (s m n : ℕ) → m ≡ p + n → passes m floor cs b s ≡ passes n floor cs b' (s + k)
  passes_after {b = b} start s m n e = ap (λ (i : ℕ). passes i floor cs b s) (omega (arith, e)) ∙ ap (λ (i : ℕ). passes n floor cs b i) (omega arith)
  passes_after {b' = b'} (round {b' = a} {p = p} {s = j} {k = k} l w h) s m n e =
      passes_after l s m (suc n) (omega arith)
      ∙ (first_pass floor cs n (s + j) a (walk_pass (s + j) w) ∙ (cond_no _ _ (ne_eqb (s + j + k) (s + j) (λ q. omega arith)) ∙ ap (λ (i : ℕ). passes n floor cs b' i) (omega arith)))

  -- passes with a step each go on
  pub ends_after : {b b' : List ℤ} {p k : ℕ} {w : Run} → Passing floor cs 1 b b' p k → Targets b cs → High floor b → (s : ℕ) → Ends floor cs b' (s + k) w → Ends floor cs b s w
  ends_after {p = p} l e up s f =
      let r = passing_room l e up in
      record { at = λ n h. f.at (n - p) (omega (arith, r)) ∙ sym (passes_after l s n (n - p) (omega (arith, r))) }
