-- The run of a book's clauses from a fresh board: what it asks, and what its outcome says. Assumes nothing.
use mathlib.Core.Path.{◌≡◌, sym, ap, ◌∙◌}
use mathlib.Core.List.{List, [], ◌∷◌}
use Prim.Native.Nat.{ℕ, ◌≤◌, ◌^◌}
use native.Mathlib.Omega.{arith}
use lib.IntN.{ℤ, pos, nat_abs, ◌-ℤ◌}
use lib.Signed.{◌≤ℤ◌}
use Rattle.std.proofs.lemmas.List.{length-map}
use mir.Syntax.{w32}
use mir.Val.{SFits, of_z, to_z}
use Rattle.maxatom.specs.Book.{Book, Each, total, smallest, floor}
use Rattle.maxatom.specs.Accepted.{InBook, Accepted}
use Rattle.maxatom.specs.declared.Rule.{Rule}
use Rattle.maxatom.specs.declared.Arm.{Arm}
use Rattle.maxatom.specs.Clauses.{arms_of, clauses_of}
use Rattle.maxatom.specs.Runs.{Run, run}
use Rattle.maxatom.proofs.Integers.{le_read, le_make, minus_parts}
use Rattle.maxatom.proofs.Lists.{each_map, each_time}
use Rattle.maxatom.proofs.Rules.{smallest_least, floor_parts}
use Rattle.derivation.specs.Run.{solve}
use Rattle.derivation.specs.Calls.{answer_of}
use Rattle.derivation.specs.Replies.{solved_answer}
use Rattle.derivation.specs.Inner.{SolvedAs}
use Rattle.derivation.specs.declared.Solved.{Solved}
use Rattle.table.proofs.Latest.{floor_is}
use Rattle.run.specs.Running.{Runnable}
use Rattle.solver.proofs.Laws.{all_in_jobs}
use Rattle.solver.proofs.Steps.{floor_bound}

small_offsets : (jobs : ℕ) (rules : List Rule) → Each (InBook jobs) rules → Each (λ c. Each (λ (a : Arm). nat_abs a.offset ≤ 2 ^ 30) (arms_of c)) (clauses_of rules)
small_offsets jobs [] e = tt
small_offsets jobs (r ∷ rules) e = ((omega (arith, e.0.offset), (omega (arith, e.0.offset), tt)), small_offsets jobs rules e.1)

-- `least` and `low` are numbers of 32 bits: the smallest latest time and the floor, as the code has them
module _ {b : Book} (a : Accepted b) {k : ℕ} {least low : ℤ} (sum : k ≡ total b.rules) (fits_least : SFits w32 least) (first : least ≡ smallest b.latest)
    (fits_low : SFits w32 low) (is : low ≡ to_z w32 (of_z w32 least) -ℤ pos k) where
  low_is : to_z w32 (of_z w32 low) ≡ floor b
  low_is = floor_is b.latest sum fits_least first fits_low is

  pub runnable : Runnable (to_z w32 (of_z w32 low)) (clauses_of b.rules) b.latest
  runnable =
      rw low_is
      (record {
        in_times = rw a.size (all_in_jobs b.jobs b.rules a.rules_in);
        few = omega (arith, a.size, a.few);
        short = rw length-map a.short;
        high = λ job. le_make (omega (arith, floor_parts b, le_read (smallest_least b.latest job)));
        early = each_time (λ (t : ℤ). t ≤ℤ pos 0) b.latest (le_make (omega arith)) (each_map _ _ b.latest (λ t w. w.highest) a.latest_in);
        deep = le_make (omega (arith, floor_bound a, minus_parts (2 ^ 30)));
        offsets = small_offsets b.jobs b.rules a.rules_in;
      })

  pub solved : (r : Solved) {times : List ℤ} {end : Run} → answer_of end ≡ solved_answer r → times ≡ end.times →
      end ≡ run (to_z w32 (of_z w32 low)) (clauses_of b.rules) b.latest → SolvedAs (solve b) r times
  unfolding solve
  solved r said left e = let same = rw low_is at e in record { said = sym said ∙ ap answer_of same; left = left ∙ ap (λ (w : Run). w.times) same }
