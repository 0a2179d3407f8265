-- `image::survey_call` meets its contract: what is wrong with the store comes first, and past it the fields count (`Surveys`). Assumes nothing.
use mathlib.Core.Path.{sym, ◌∙◌}
use Rattle.answers.proofs.Results.{refusal}
use Rattle.image.proofs.Surveys.{call-legal, call-illegal, call-unsound}
use Rattle.image.proofs.survey_call.Goals as goal

pub returns-in_err-l : goal.returns-in_err-l
returns-in_err-l c =
    let a = c.args in
    refusal c.from_residual.ensures ∙ call-unsound a.w.now a.legal (sym c.in_err-l.was ∙ c.survey_store.ensures)

pub returns-then-legal : goal.returns-then-legal
returns-then-legal c =
    let e = sym c.in_ok-l.was ∙ c.survey_store.ensures in
    e ∙ call-legal c.args.w.now e c.if-legal.true

pub returns-else-legal : goal.returns-else-legal
returns-else-legal c = call-illegal c.args.w.now (sym c.in_ok-l.was ∙ c.survey_store.ensures) c.if-legal.false
