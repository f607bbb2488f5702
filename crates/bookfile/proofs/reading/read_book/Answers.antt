use mathlib.Core.Path.{sym, ap, ◌∙◌}
use mathlib.Core.List.{List, ◌++◌}
use lib.IntN.{ℤ}
use lib.ListN.{drop}
use lib.Seq.{length-take-le}
use Rattle.maxatom.specs.declared.Rule.{Rule}
use Rattle.bookfile.proofs.Walks.{listed_jobs, listed_rules, read_refused, read_short, read_room, rules_left, latest_left, rules_written, latest_written}
use Rattle.bookfile.proofs.reading.read_book.Goals as goal

pub returns-in_err-checked-clause-rules_after : goal.returns-in_err-checked-clause-rules_after
returns-in_err-checked-clause-rules_after c = rules_left _ _ _ (read_refused _ _ _ (sym c.in_err-checked.ensures.said))

pub returns-in_err-checked-clause-latest_after : goal.returns-in_err-checked-clause-latest_after
returns-in_err-checked-clause-latest_after c = latest_left _ _ _ (read_refused _ _ _ (sym c.in_err-checked.ensures.said))

pub returns-then-rules-counts-clause-rules_after : goal.returns-then-rules-counts-clause-rules_after
returns-then-rules-counts-clause-rules_after c =
    rules_left _ _ _ (read_short _ _ _ (sym c.in_ok-checked.ensures.said) c.then-rules-counts.either)

pub returns-then-rules-counts-clause-latest_after : goal.returns-then-rules-counts-clause-latest_after
returns-then-rules-counts-clause-latest_after c =
    latest_left _ _ _ (read_short _ _ _ (sym c.in_ok-checked.ensures.said) c.then-rules-counts.either)

pub write_latest-requires-clause-latest_len : goal.write_latest-requires-clause-latest_len
write_latest-requires-clause-latest_len c = length-take-le _ _ c.if-latest-counts.false ∙ listed_jobs _ _ (sym c.in_ok-checked.ensures.said)

pub write_rules-requires-clause-rules_len : goal.write_rules-requires-clause-rules_len
write_rules-requires-clause-rules_len c = length-take-le _ _ c.if-rules-counts.false ∙ listed_rules _ _ (sym c.in_ok-checked.ensures.said)

pub returns-clause-rules_after : goal.returns-clause-rules_after
returns-clause-rules_after c =
    let e = sym c.in_ok-checked.ensures.said in
    ap (λ (l : List Rule). l ++ drop c.in_ok-checked.checked.counts.rules c.args.rules.now) c.write_rules.ensures
    ∙ rules_written _ _ _ e (read_room _ _ _ e c.if-rules-counts.false c.if-latest-counts.false)

pub returns-clause-latest_after : goal.returns-clause-latest_after
returns-clause-latest_after c =
    let e = sym c.in_ok-checked.ensures.said in
    ap (λ (l : List ℤ). l ++ drop c.in_ok-checked.checked.counts.jobs c.args.latest.now) c.write_latest.ensures
    ∙ latest_written _ _ _ e (read_room _ _ _ e c.if-rules-counts.false c.if-latest-counts.false)
