-- `decision_match::match_access` meets its contract. A store that is not sound is 6, a field out of its range 7; past both the row is chosen
-- among the access rows that the store holds (`Choices`), and `access_row` hands it back. Assumes nothing.
use mathlib.Core.Path.{◌≡◌, sym, ap, ◌∙◌}
use mathlib.Core.Bool.{Bool}
use lib.ListN.{length}
use borrow.Author.Rules.{rules}
use Rattle.answers.proofs.Results.{refusal}
use Rattle.image_layout.specs.Layout.{layout_of}
use Rattle.image_judge.specs.Faults.{surveyed}
use Rattle.image.specs.Store.{call_fault}
use Rattle.image.proofs.Surveys.{Called, call-laid}
use Rattle.decision_match.specs.Matches.{legal_access}
use Rattle.decision_match.proofs.Hands.{hands-faulty}
use Rattle.decision_match.proofs.Choices.{access-refused, access-legal}
use Rattle.decision_match.proofs.match_access.Goals as goal

-- where the call of `survey_call` stands

pub access_row-requires : goal.access_row-requires
access_row-requires c =
    let legal : Bool = let a = c.args in legal_access (length a.group_name.now) (length a.context_name.now) a.security_model a.security_level in
    let answered : let w = c.args.store.now in c.survey_call.result ≡ surveyed (call_fault w (legal)) (layout_of w) = let w = c.args.store.now in c.survey_call.ensures ∙ ap (λ b. surveyed (call_fault w b) (layout_of w)) c.is_legal_access-legal.ensures in
    let called : Called c.args.store.now (legal) c.in_ok-l.l = call-laid c.args.store.now legal (sym c.in_ok-l.was ∙ answered) in
    let a = c.args in
    record { rows = (called).sound.accesses_sound; room = search rules }

pub returns : goal.returns
returns c =
    let legal : Bool = let a = c.args in legal_access (length a.group_name.now) (length a.context_name.now) a.security_model a.security_level in
    let answered : let w = c.args.store.now in c.survey_call.result ≡ surveyed (call_fault w (legal)) (layout_of w) = let w = c.args.store.now in c.survey_call.ensures ∙ ap (λ b. surveyed (call_fault w b) (layout_of w)) c.is_legal_access-legal.ensures in
    let called : Called c.args.store.now (legal) c.in_ok-l.l = call-laid c.args.store.now legal (sym c.in_ok-l.was ∙ answered) in
    let a = c.args in
    rw
    (access-legal a.store.now a.group_name.now a.context_name.now a.security_model a.security_level c.in_ok-l.l called)
    c.access_row.ensures

pub returns-in_err-l : goal.returns-in_err-l
returns-in_err-l c =
    let legal : Bool = let a = c.args in legal_access (length a.group_name.now) (length a.context_name.now) a.security_model a.security_level in
    let answered : let w = c.args.store.now in c.survey_call.result ≡ surveyed (call_fault w (legal)) (layout_of w) = let w = c.args.store.now in c.survey_call.ensures ∙ ap (λ b. surveyed (call_fault w b) (layout_of w)) c.is_legal_access-legal.ensures in
    let a = c.args in
    rw (refusal c.from_residual.ensures) (hands-faulty
    (access-refused a.store.now a.group_name.now a.context_name.now a.security_model a.security_level
    (sym c.in_err-l.was ∙ answered)))
