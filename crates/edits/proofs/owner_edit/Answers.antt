-- `edits::owner_edit` meets its contract: a store that is not sound is 6 and stays, and otherwise it is the edit of a sound store. Assumes nothing.
use mathlib.Core.Path.{refl, sym, ◌∙◌}
use Rattle.answers.proofs.Results.{refusal}
use Rattle.numbers.proofs.Bools.{clash}
use Rattle.image.proofs.Surveys.{store_laid, store-bad, store-only}
use Rattle.edit_rules.specs.Edits.{edit_of}
use Rattle.edit_rows.proofs.Stores.{edits-unsound}
use Rattle.edits.specs.Calls.{owner_edit}
use Rattle.edits.proofs.owner_edit.Goals as goal

pub returns-in_err-l : goal.returns-in_err-l
returns-in_err-l c =
    let a = c.args in
    let s = sym c.in_err-l.was ∙ c.survey_store.ensures in
    rw (refusal c.from_residual.ensures, store-only a.store.now s)
    (edits-unsound (λ ts. owner_edit ts (edit_of a.o a.t a.bytes.now)) a.store.now (store-bad _ s))

pub edit_laid-requires : goal.edit_laid-requires
edit_laid-requires c =
    let h = store_laid c.args.store.now (sym c.in_ok-l.was ∙ c.survey_store.ensures) in
    record { sound = h.0; laid = h.1; free = λ e. clash e refl }
