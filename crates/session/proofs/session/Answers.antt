use Rattle.std.proofs.Common.{arith, ◌∙◌, refl, ap}
use Rattle.maxatom.specs.Book.{Book}
use Rattle.derivation.specs.Step.{initial}
use Rattle.bookfile.specs.declared.mark.Form.TheVariants.{Sent}
use Rattle.bookfile.specs.Reading.{book_of_file}
use Rattle.report.proofs.Texts.{written_take}
use Rattle.report.proofs.Reports.{read_same, answered, read_is}
use Rattle.commands.specs.Answers.{answer_text}
use Rattle.session.specs.Sessions.{Held}
use Rattle.session.proofs.Turns.{state_is}
use Rattle.session.proofs.Sessions.{on_map, served_as}
use Rattle.session.proofs.session.Goals as goal

pub returns-in-Ok : goal.returns-in-Ok
unfolding Held
returns-in-Ok g c =
    let e = c.in-Ok.ensures in
    let same = read_is _ e.said _ _ refl refl e.rules_after e.latest_after in
    let state = state_is (initial (book_of_file Sent c.args.file.now)) (c.copy_from_slice.ensures.after ∙ ap (λ (b : Book). b.latest) same) refl in
    record { held = rw (answered _ e.said) (on_map c.serve.result (served_as same state) c.serve.ensures.served) }

pub returns-in-Err : goal.returns-in-Err
unfolding Held answer_text
returns-in-Err g c =
    let bound = c.write_answer-end.ensures.upper_bound in
    let part = written_take c.write_answer-end.ensures.written (omega (arith, bound)) in
    record { held = rw (← c.in-Err.ensures.said ∙ read_same c.args.file.now) (on_map c.write_all.result (λ p. (rw part at p, refl)) c.write_all.ensures.bytes) }
