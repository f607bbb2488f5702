use Rattle.std.proofs.Common.{arith, ◌≡◌, ◌∷◌, ◌+◌, ◌∙◌, List, sym, ap, drop, add-one}
use lib.ListN.{length, drop_of_length-le}
use lib.Seq.{drop-cons}
use Rattle.maxatom.specs.declared.Rule.{Rule}
use Rattle.maxatom.proofs.Choose.{cond_yes, cond_no}
use Rattle.maxatom.specs.Accepted.{InBook}
use Rattle.derivation.specs.Step.{no_rule, rule_at}
use Rattle.derivation.proofs.AnyOrder.{each_at}
use Rattle.solver.proofs.Laws.{in_jobs}
use Rattle.report.specs.Report.{tight_fields}
use Rattle.report.specs.declared.text.Text.{Text}
use Rattle.report.proofs.Texts.{listed_next, listed_same, listed_all}
use Rattle.report.proofs.text.Text.tight_fields.Goals as goal
use Rattle.report.proofs.text.Text.tight_fields.Goals.{then-is_equality, else-is_equality}

pub loop-i-preserved : goal.loop-i-preserved
unfolding tight_fields
loop-i-preserved c =
    let rules = c.args.rules.now in
    let i = c.loop-i.i in
    let v = c.loop-i.invariant in
    let head : drop i rules ≡ rule_at rules i ∷ drop (i + 1) rules = let inside = c.loop-i-test.true in rw (add-one, drop-cons rules i no_rule) in
    let left = ap (λ (rs : List Rule). tight_fields i rs c.args.times.now) head in
    elim c.if-is_equality.branch [
      | then-is_equality w ↦
          let e = ap (λ (t : Text). t.end) w.self-is in
          record {
            near = omega arith;
            listed = rw w.self-is (listed_next (left ∙ cond_yes _ _ (sym c.is_equality.ensures ∙ w.if-is_equality.true)) v.listed w.field.ensures.written);
          }
      | else-is_equality w ↦
          let e = ap (λ (t : Text). t.end) w.self-is in
          record {
            near = omega arith;
            listed = rw w.self-is (listed_same (left ∙ cond_no _ _ (sym c.is_equality.ensures ∙ w.if-is_equality.false)) v.listed);
          }
    ]

pub is_equality-requires : goal.is_equality-requires
is_equality-requires c =
    let times = c.args.times.now in
    in_jobs (length times) _ (each_at (InBook (length times)) c.args.rules.now c.loop-i.i c.loop-i-test.true c.requires.rules_in)

pub returns-clause-written : goal.returns-clause-written
unfolding tight_fields
returns-clause-written c =
    let i = c.loop-i.i in
    listed_all (ap (λ (rs : List Rule). tight_fields i rs c.args.times.now) (drop_of_length-le c.args.rules.now c.loop-i-test.false)) c.loop-i.invariant.listed
