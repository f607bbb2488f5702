use Rattle.std.proofs.Common.{arith, rules, refl, set, ap, sym, ◌∙◌, ◌≡◌, SFits, to_z, of_z, to_z-of_z, w32, w64}
use Rattle.std.proofs.lemmas.List.{get_or-map}
use Rattle.maxatom.specs.Clauses.{left_of, stepped}
use Rattle.maxatom.specs.Rule.{time_at}
use Rattle.clauses.proofs.Passes.{item_in_times}
use Rattle.run.proofs.Underway.{item_fits}
use Rattle.run.proofs.passing.last_step.Goals as goal

pub left_side-left-requires : goal.left_side-left-requires
left_side-left-requires g c =
    item_in_times g.C.AsClause.clause c.args.clauses.now c.args.times.now c.args.times.now c.requires.runnable.in_times c.requires.low.0 c.index-clauses-low.is refl

pub bounds-times-z : goal.bounds-times-z
bounds-times-z g c =
    let inside = item_in_times g.C.AsClause.clause c.args.clauses.now c.args.times.now c.args.times.now c.requires.runnable.in_times c.requires.low.0 c.index-clauses-low.is refl in
    omega (arith, inside.target, c.target-z.ensures)

pub overflow_cast-left : goal.overflow_cast-left
overflow_cast-left g c =
    let wide : SFits w64 c.left_side-left.result = search rules in
    rw (to_z-of_z {w = w64} wide, c.left_side-left.ensures) (item_fits g.C.AsClause.clause c.args.clauses.now c.requires.runnable c.requires.low.0 c.index-clauses-low.is)

pub returns : goal.returns
returns g c d =
    let times = c.args.times.now in
    let x = c.index-clauses-low.result in
    let left = c.left_side-left.result in
    let wide : SFits w64 left = search rules in
    let narrow = item_fits g.C.AsClause.clause c.args.clauses.now c.requires.runnable c.requires.low.0 c.index-clauses-low.is in
    let cast : to_z w32 (of_z w32 (to_z w64 (of_z w64 left))) ≡ left_of (time_at times) (g.C.AsClause.clause x) =
    rw (to_z-of_z {w = w64} wide, c.left_side-left.ensures) (to_z-of_z {w = w32} narrow) in
    let time : SFits w32 (time_at times c.target-z.result) = search rules in
    let stored : set times c.target-z.result (to_z w32 (of_z w32 (to_z w64 (of_z w64 left)))) ≡ stepped times (g.C.AsClause.clause x) =
    rw (cast, c.target-z.ensures) refl in
    rw (get_or-map g.C.AsClause.clause c.args.clauses.now c.args.low.at x d c.requires.low.0 ∙ ap g.C.AsClause.clause (sym c.index-clauses-low.is)) (record { stored = stored; counted = refl; told = rw (cast, to_z-of_z {w = w32} time, c.target-z.ensures) refl })
