use Rattle.std.proofs.Common.{rules, length, sym, ◌≡◌, Bool, cond, [], ◌∷◌}
use mir.Facts.{to_z-of_z}
use mir.Syntax.{w64}
use mir.Val.{SFits, of_z, to_z}
use lib.Signed.{le_z}
use Rattle.restriction.specs.Restriction.{leftover}
use Rattle.clauses.proofs.Arms.{arm_in}
use Rattle.restriction.proofs.Restrictions.{own_jobs, left_tautology, left_foreign, left_sides}
use Rattle.restriction.proofs.restricting.leftover.Goals as goal
use Rattle.restriction.proofs.restricting.leftover.Goals.{After-left_side-2}

pub returns-then-is_tautology : goal.returns-then-is_tautology
returns-then-is_tautology g c = left_tautology _ _ _ (sym c.if-is_tautology.ensures)

pub returns-in_err-first : goal.returns-in_err-first
returns-in_err-first g c = let e = left_foreign c.args.paces.now c.args.times.now (g.C.AsClause.clause c.args.c.now) (sym c.if-is_tautology.ensures) c.in_err-first.ensures.first in search rules

pub left_side-requires-2 : goal.left_side-requires-2
left_side-requires-2 g c =
    let cl = g.C.AsClause.clause c.args.c.now in
    let f = c.in_ok-first.ensures in
    rw c.with_own-d.ensures (own_jobs c.args.paces.now cl (arm_in cl c.in_ok-first.first f.in_range) f.is_own (length c.args.times.now) c.requires.in_times)

-- what is left, by the test of the left sides
by_sides : (g : _) (c : After-left_side-2 g) {v : Bool} → le_z (to_z w64 (of_z w64 c.left_side.result)) (to_z w64 (of_z w64 c.left_side-2.result)) ≡ v →
    leftover c.args.paces.now c.args.times.now (g.C.AsClause.clause c.args.c.now) ≡ cond v (g.C.AsClause.clause c.with_own-d.result ∷ []) []
by_sides g c e =
    let all : SFits w64 c.left_side.result = search rules in
    let own : SFits w64 c.left_side-2.result = search rules in
    rw (rw (to_z-of_z all, to_z-of_z own, c.left_side.ensures, c.left_side-2.ensures) at e) at
    (left_sides c.args.paces.now c.args.times.now (g.C.AsClause.clause c.args.c.now) (sym c.if-is_tautology.ensures) c.in_ok-first.ensures.first c.with_own-d.ensures)

pub returns-then-left_side : goal.returns-then-left_side
returns-then-left_side g c = by_sides g (goal.at.returns-then-left_side g c).After-left_side-2 c.if-left_side.true

pub returns-else-left_side : goal.returns-else-left_side
returns-else-left_side g c = by_sides g (goal.at.returns-else-left_side g c).After-left_side-2 c.if-left_side.false
