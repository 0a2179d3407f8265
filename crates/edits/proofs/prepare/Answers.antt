-- `edits::prepare` meets its contract: a store that is not sound is 6, bytes that are not whole or out of their ranges are 7, and otherwise the
-- survey says where the tables lie and the judging where the key ends (`Calls`). Assumes nothing.
use mathlib.Core.Path.{sym, ap, ◌∙◌}
use Rattle.std.specs.Prelude.{Err}
use Rattle.answers.proofs.Results.{refusal}
use Rattle.image.proofs.Surveys.{store_laid, store-bad, store-only}
use Rattle.edits.proofs.Calls.{handed-legal, handed-illegal, prepared-unsound, prepared-illegal, prepared-ready}
use Rattle.edits.proofs.prepare.Goals as goal

pub returns-in_err-l : goal.returns-in_err-l
returns-in_err-l c =
    let a = c.args in
    let s = sym c.in_err-l.was ∙ c.survey_store.ensures in
    refusal c.from_residual.ensures ∙ ap Err (store-only a.store.now s) ∙ prepared-unsound a.o a.t a.store.now a.bytes.now (store-bad _ s)

pub returns-in_err-k : goal.returns-in_err-k
returns-in_err-k c =
    let a = c.args in
    let sound = (store_laid a.store.now (sym c.in_ok-l.was ∙ c.survey_store.ensures)).0 in
    let h = handed-illegal a.o a.t a.bytes.now c.judge_handed.ensures (sym c.or.ensures ∙ c.in_err-k.was) in
    refusal c.from_residual-in_err-k.ensures ∙ ap Err h.0 ∙ prepared-illegal a.o a.t a.store.now a.bytes.now sound h.1

pub returns : goal.returns
returns c =
    let a = c.args in
    let laid = store_laid a.store.now (sym c.in_ok-l.was ∙ c.survey_store.ensures) in
    let h = handed-legal a.o a.t a.bytes.now c.judge_handed.ensures (sym c.or.ensures ∙ c.in_ok-k.was) in
    prepared-ready a.o a.t a.store.now a.bytes.now laid.0 h.0 laid.1 h.1
