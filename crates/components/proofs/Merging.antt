-- Components side by side: passes over the components before one, and as many over that one, are passes over both. Assumes nothing.
use mathlib.Core.Path.{◌≡◌, sym, subst}
use mathlib.Core.Logic.{◌⊎◌, inl, inr}
use mathlib.Core.List.{List, []}
use Prim.Native.Nat.{ℕ, ◌+◌, ◌<◌, ◌≤◌, ◌^◌}
use native.Mathlib.Decide.{dec_lt}
use native.Mathlib.Omega.{arith}
use lib.ListN.{get_or}
use lib.IntN.{ℤ}
use Rattle.maxatom.specs.Rule.{time_at}
use Rattle.maxatom.specs.Clauses.{Clause}
use Rattle.maxatom.specs.Passes.{Walk, done, Traced, start, round, Along}
use Rattle.maxatom.proofs.Components.{narrow, merged, weaken, settled}
use Rattle.accelerate.specs.Acceleration.{PassesMade}
use Rattle.restriction.specs.declared.pace.Pace.{Pace}
use Rattle.restriction.specs.Restriction.{component_of, pick, Line, Allowed}
use Rattle.restriction.proofs.Restrictions.{merge, picked_none}
use Rattle.components.specs.Components.{Advanced, Chosen, Ahead}

-- the same passes, with something else said of the jobs
retold : {floor : ℤ} {cs : List Clause} {least : ℕ} {P : ℕ → Type 0} {S S' : ℕ → ℕ → ℤ → Type 0} → ((job i : ℕ) (v : ℤ) → P job → S job i v → S' job i v) → {a b : List ℤ} {p s : ℕ} →
    Traced floor cs least P S a b p s → Traced floor cs least P S' a b p s
retold h (start said) = start (λ job q. h job _ _ q (said job q))
retold h (round m w k said) = round (retold h m) w k (λ job q. h job _ _ q (said job q))

-- no component: no clauses, and nothing moves
pub ahead_none : (cs : List Clause) (floor : ℤ) (paces : List Pace) (times : List ℤ) (passes : ℕ) → Ahead cs floor paces times 0 passes times 0
ahead_none cs floor paces times passes =
    let walk : Walk floor [] times times 0 = done in
    record {
      few = omega arith;
      least = 0;
      some = λ h. h;
      traced = rw (picked_none paces times cs)
          ((settled walk).1 passes (λ job. component_of paces job < 0) (Line paces times) (λ i l job h. absurd (omega arith)));
    }

-- a component's jobs keep to their lines
lined : {g period : ℕ} {paces : List Pace} {drops : List ℕ} {times ahead : List ℤ} → Chosen g period paces times ahead drops → (job i : ℕ) (v : ℤ) → component_of paces job ≡ g →
    Along period (get_or drops job 0) (time_at ahead job) i v → Line paces times job i v
lined c job i v l a = rw (c.same_period job l, sym (c.same_drop job l), sym (c.unmoved job l)) a

-- one component more
module _ {cs : List Clause} {floor : ℤ} {paces : List Pace} {drops : List ℕ} {times ahead ahead' : List ℤ} {g passes period s k : ℕ} where
  pub ahead_more : Ahead cs floor paces times g passes ahead s → Chosen g period paces times ahead drops → {picked : List Clause} → picked ≡ pick g (g + 1) paces times cs →
      Advanced picked floor period drops ahead ahead' passes k → s < 2 ^ 62 → Ahead cs floor paces times (g + 1) passes ahead' (s + k)
  ahead_more a c e d few =
      let Low : ℕ → Type 0 = λ job. component_of paces job < g in
      let Here : ℕ → Type 0 = λ job. component_of paces job ≡ g in
      let mine : Traced floor (pick g (g + 1) paces times cs) d.least Here (Line paces times) ahead ahead' passes k =
      subst (λ (l : List Clause). Traced floor l d.least Here (Line paces times) ahead ahead' passes k) e (retold (lined c) (narrow (λ job q. tt) d.traced)) in
      record {
        few = omega (arith, d.few);
        least = a.least + d.least;
        some = λ h. grind (arith, a.some, d.some);
        traced = narrow (λ job h. either job h (dec_lt (component_of paces job) g))
            (merged {P = Low} {Q = Here} (λ job p q. omega arith) (λ job. dec_lt (component_of paces job) g) (merge paces times g cs) a.traced mine);
      }
    where
      either : (job : ℕ) → component_of paces job < g + 1 → Dec (component_of paces job < g) → (component_of paces job < g) ⊎ (component_of paces job ≡ g)
      either job h (yes l) = inl l
      either job h (no l) = inr (omega arith)

-- all components, with a step in each pass: passes over all clauses
pub ahead_all : {cs : List Clause} {floor : ℤ} {paces : List Pace} {times ahead : List ℤ} {components passes s : ℕ} →
    Ahead cs floor paces times components passes ahead s → 1 ≤ s → Allowed cs paces times components passes → PassesMade cs floor times ahead s
ahead_all {floor = floor} {times = times} {ahead = ahead} {passes = passes} {s = s} a h ok =
    record { passes = passes; passing = weaken (a.some h) (ok.passing floor a.least times ahead s a.traced) }
