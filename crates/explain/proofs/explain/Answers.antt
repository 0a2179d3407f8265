-- `explain::explain` meets its contract. A store that is not sound is 6, a request out of its ranges 7, both with no rows; past both the explanation is
-- that of the tables that the store holds (`Calls`). Assumes nothing.
use mathlib.Core.Path.{◌≡◌, sym, ap, ◌∙◌}
use borrow.Author.Rules.{rules}
use Rattle.image_layout.specs.Layout.{layout_of}
use Rattle.image_judge.specs.Faults.{surveyed}
use Rattle.image.specs.Store.{call_fault}
use Rattle.image.proofs.Surveys.{Called, call-laid}
use Rattle.decision_steps.specs.Request.{Request, asked, legal_request}
use Rattle.decision.proofs.Answers.{variable-few}
use Rattle.explain.proofs.Calls.{explanation-refused, explanation-laid, hands_none}
use Rattle.explain.proofs.explain.Goals as goal

-- where the call of `survey_call` stands

pub explain_rows-requires : goal.explain_rows-requires
unfolding legal_request
explain_rows-requires c =
    let request : Request = let a = c.args in asked a.security_model a.security_name.now a.security_level a.view_type a.context_name.now a.variable_name.now in
    let answered : let w = c.args.store.now in c.survey_call.result ≡ surveyed (call_fault w (legal_request (request))) (layout_of w) = let w = c.args.store.now in c.survey_call.ensures ∙ ap (λ b. surveyed (call_fault w b) (layout_of w)) c.in_range-legal.ensures in
    let called : Called c.args.store.now (legal_request (request)) c.in-Ok.l = call-laid c.args.store.now (legal_request request) (sym c.in-Ok.is ∙ answered) in
    record { tables = (called).sound; parts = variable-few request (called).in_range; mapping = search rules; access = search rules; view = search rules }

pub returns-in-Ok : goal.returns-in-Ok
unfolding legal_request
returns-in-Ok c =
    let request : Request = let a = c.args in asked a.security_model a.security_name.now a.security_level a.view_type a.context_name.now a.variable_name.now in
    let answered : let w = c.args.store.now in c.survey_call.result ≡ surveyed (call_fault w (legal_request (request))) (layout_of w) = let w = c.args.store.now in c.survey_call.ensures ∙ ap (λ b. surveyed (call_fault w b) (layout_of w)) c.in_range-legal.ensures in
    let called : Called c.args.store.now (legal_request (request)) c.in-Ok.l = call-laid c.args.store.now (legal_request request) (sym c.in-Ok.is ∙ answered) in
    rw (explanation-laid c.args.store.now request called) c.explain_rows.ensures

pub returns-in-Err : goal.returns-in-Err
unfolding legal_request
returns-in-Err c =
    let request : Request = let a = c.args in asked a.security_model a.security_name.now a.security_level a.view_type a.context_name.now a.variable_name.now in
    let answered : let w = c.args.store.now in c.survey_call.result ≡ surveyed (call_fault w (legal_request (request))) (layout_of w) = let w = c.args.store.now in c.survey_call.ensures ∙ ap (λ b. surveyed (call_fault w b) (layout_of w)) c.in_range-legal.ensures in
    rw (explanation-refused c.args.store.now request (sym c.in-Err.is ∙ answered)) (hands_none _ _)
