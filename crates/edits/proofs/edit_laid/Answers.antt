-- `edits::edit_laid` meets its contract: bytes that are not whole or out of their ranges are 7, and otherwise what `edit_rows::edit` leaves is what the
-- owner's edit says (`Calls`). Assumes nothing.
use mathlib.Core.Path.{refl, sym, ap, ◌∙◌}
use Rattle.answers.proofs.Results.{refusal}
use Rattle.numbers.specs.Lists.{is_none}
use Rattle.numbers.proofs.Bools.{clash}
use Rattle.edit_rules.specs.Edits.{edit_of}
use Rattle.edits.proofs.Calls.{legal-is, handed-legal, handed-illegal, owner-illegal, owner-legal}
use Rattle.edits.proofs.edit_laid.Goals as goal

pub returns-in_err-k : goal.returns-in_err-k
returns-in_err-k c =
    let a = c.args in
    let h = handed-illegal a.o a.t a.bytes.now c.judge_handed.ensures (sym c.or.ensures ∙ c.in_err-k.was) in
    rw (refusal c.from_residual.ensures, h.0) (owner-illegal (edit_of a.o a.t a.bytes.now) a.store.now c.requires.sound h.1)

pub edit-requires : goal.edit-requires
edit-requires c =
    let a = c.args in
    let h = handed-legal a.o a.t a.bytes.now c.judge_handed.ensures (sym c.or.ensures ∙ c.in_ok-k.was) in
    record { store = record { sound = c.requires.sound; laid = c.requires.laid; free = λ e. clash e refl }; handed = record { whole = h.0; key_is = h.1 } }

pub returns : goal.returns
returns c =
    let a = c.args in
    let h = handed-legal a.o a.t a.bytes.now c.judge_handed.ensures (sym c.or.ensures ∙ c.in_ok-k.was) in
    owner-legal (edit_of a.o a.t a.bytes.now) _ (legal-is a.o a.t a.bytes.now ∙ ap is_none h.0) c.edit.ensures
