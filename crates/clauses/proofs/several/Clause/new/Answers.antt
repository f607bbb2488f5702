use Rattle.std.proofs.Common.{◌≡◌, ℕ, ◌≤◌, ◌<◌, ◌-◌, List, [], ◌∷◌, ◌++◌, length, get_or, take, drop, arith, refl}
use Rattle.std.proofs.Math.Seq.{take-append_seam, take-length}
use Rattle.std.specs.Prelude.{Some, None}
use borrow.Author.Tests.{le-leb, lt-leb}
use Rattle.maxatom.specs.declared.Arm.{Arm}
use Rattle.clauses.specs.Several.{with_arms}
use Rattle.clauses.proofs.several.Clause.new.Goals as goal

no_arms : (target : ℕ) (arms : List Arm) → length arms ≡ 0 → None ≡ with_arms target arms
unfolding with_arms
no_arms target [] h = refl
no_arms target (a ∷ l) h = absurd (omega (arith, h))

many : (target : ℕ) (arms : List Arm) → 8 < length arms → None ≡ with_arms target arms
unfolding with_arms
many target [] h = refl
many target (a ∷ l) h = rw (lt-leb (length l) 7 (omega arith))

filled : (target : ℕ) (arms : List Arm) (d : Arm) (others rest : List Arm) → (length arms ≡ 0 → ⊥) → length arms ≤ 8 → others ≡ take (length arms - 1) (drop 1 arms) →
    Some (record { first = get_or arms 0 d; others = take (length arms - 1) (others ++ rest); target = target }) ≡ with_arms target arms
unfolding with_arms
filled target [] d others rest n h e = absurd (n refl)
filled target (a ∷ l) d others rest n h e =
    let size : length (a ∷ l) - 1 ≡ length l = omega arith in
    rw (le-leb (length l) 7 (omega arith), e, size, take-length l, take-append_seam l rest)

pub returns-then-arms-eq0 : goal.returns-then-arms-eq0
returns-then-arms-eq0 c = no_arms _ _ c.if-arms-eq0.true

pub returns-then-arms-gt8 : goal.returns-then-arms-gt8
returns-then-arms-gt8 c = many _ _ c.if-arms-gt8.true

pub returns : goal.returns
returns c = filled c.args.target c.args.arms.now _ _ _ c.if-arms-eq0.false c.if-arms-gt8.false c.copy_from_slice.ensures.after
