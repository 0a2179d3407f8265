-- `decision_match::match_view` meets its contract. A store that is not sound is 6, a name or a variable out of its range 7; past both the row is chosen
-- among the rows of the view that the store holds (`Choices`), and `view_row` hands it back. Assumes nothing.
use mathlib.Core.Path.{◌≡◌, sym, ap, ◌∙◌}
use mathlib.Core.Bool.{Bool}
use mathlib.Core.List.{List}
use Prim.Native.Nat.{ℕ}
use lib.ListN.{length}
use borrow.Author.Rules.{rules}
use Rattle.std.specs.Prelude.{Ok}
use Rattle.answers.proofs.Results.{refusal}
use Rattle.image_layout.specs.declared.Layout.{Layout}
use Rattle.image_layout.specs.Layout.{layout_of}
use Rattle.image_judge.specs.Types.{Surveyed}
use Rattle.image_judge.specs.Faults.{surveyed}
use Rattle.image.specs.Store.{call_fault}
use Rattle.image.proofs.Surveys.{Called, call-laid}
use Rattle.decision_match.specs.Matches.{legal_view}
use Rattle.decision_match.proofs.Hands.{hands-faulty}
use Rattle.decision_match.proofs.Choices.{view-refused, view-legal, few-parts}
use Rattle.decision_match.proofs.match_view.Goals as goal

-- what the survey answered, by the test of the fields
module _ (w name variable : List ℕ) {b : Bool} {r : Surveyed} (e : r ≡ surveyed (call_fault w b) (layout_of w)) (t : b ≡ legal_view (length name) (length variable)) where
  answered : r ≡ surveyed (call_fault w (legal_view (length name) (length variable))) (layout_of w)
  answered = e ∙ ap (λ b. surveyed (call_fault w b) (layout_of w)) t

  called : {l : Layout} → r ≡ Ok l → Called w (legal_view (length name) (length variable)) l
  called k = call-laid w (legal_view (length name) (length variable)) (sym k ∙ answered)

pub view_row-requires : goal.view_row-requires
view_row-requires c =
    let a = c.args in
    let laid = called a.store.now a.view_name.now a.variable_name.now c.survey_call.ensures c.is_legal_view.ensures c.in_ok-l.was in
    record { rows = laid.sound.views_sound; parts = few-parts a.view_name.now a.variable_name.now laid.in_range; room = search rules }

pub returns : goal.returns
returns c =
    let a = c.args in
    let told = called a.store.now a.view_name.now a.variable_name.now c.survey_call.ensures c.is_legal_view.ensures c.in_ok-l.was in
    rw (view-legal a.store.now a.view_name.now a.variable_name.now _ told) c.view_row.ensures

pub returns-in_err-l : goal.returns-in_err-l
returns-in_err-l c =
    let a = c.args in
    let bad = answered a.store.now a.view_name.now a.variable_name.now c.survey_call.ensures c.is_legal_view.ensures in
    rw (refusal c.from_residual.ensures) (hands-faulty (view-refused a.store.now a.view_name.now a.variable_name.now (sym c.in_err-l.was ∙ bad)))
