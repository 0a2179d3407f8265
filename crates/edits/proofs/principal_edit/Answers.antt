-- `edits::principal_edit` meets its contract. What is not ready is refused; a caller out of its ranges is 7; what is not admitted is 12 or 1 to 5,
-- the edit being judged by the index of the key at the front of its bytes; otherwise what `edit_rows::edit` leaves is what the principal's edit says
-- (`Calls`). Assumes nothing.
use mathlib.Core.Path.{sym, ◌∙◌}
use native.Mathlib.Omega.{arith}
use Rattle.answers.proofs.Results.{refusal, handed_on}
use Rattle.edit_rules.specs.Edits.{caller_of, edit_of, shape_of}
use Rattle.edit_rows.proofs.Stores.{sound-laid, key-within}
use Rattle.edits.proofs.Calls.{ready, front-whole, admitted, unready-principal, granted-free, caller-illegal, principal-denied, principal-granted}
use Rattle.edits.proofs.principal_edit.Goals as goal

pub returns-in_err-l : goal.returns-in_err-l
returns-in_err-l c =
    let a = c.args in
    rw (refusal c.from_residual.ensures)
    (unready-principal a.o a.t a.store.now a.bytes.now (caller_of a.security_model a.security_name.now a.security_level) (sym c.in_err-l.was ∙ c.prepare.ensures))

pub returns-then-not-is_caller : goal.returns-then-not-is_caller
returns-then-not-is_caller c =
    let a = c.args in
    let r = ready a.o a.t a.store.now a.bytes.now (sym c.in_ok-l.was ∙ c.prepare.ensures) in
    caller-illegal (caller_of a.security_model a.security_name.now a.security_level) (edit_of a.o a.t a.bytes.now) _ r.sound
    (sym c.is_caller.ensures ∙ c.if-not-is_caller.true)

pub standing_of-standing-requires : goal.standing_of-standing-requires
standing_of-standing-requires c =
    let a = c.args in
    let r = ready a.o a.t a.store.now a.bytes.now (sym c.in_ok-l.was ∙ c.prepare.ensures) in
    sound-laid r.sound r.laid

pub slice_bounds-admit-end : goal.slice_bounds-admit-end
slice_bounds-admit-end c =
    let a = c.args in
    let r = ready a.o a.t a.store.now a.bytes.now (sym c.in_ok-l.was ∙ c.prepare.ensures) in
    omega (arith, key-within (shape_of a.o) a.t a.bytes.now r.whole, r.key_is)

pub admit-requires : goal.admit-requires
admit-requires c =
    let a = c.args in
    let r = ready a.o a.t a.store.now a.bytes.now (sym c.in_ok-l.was ∙ c.prepare.ensures) in
    record { standing = c.standing_of-standing.ensures.lies; whole = front-whole r (λ i. omega (arith, c.type_inv.bytes i)) }

pub returns-in_err-admit : goal.returns-in_err-admit
returns-in_err-admit c =
    let a = c.args in
    let r = ready a.o a.t a.store.now a.bytes.now (sym c.in_ok-l.was ∙ c.prepare.ensures) in
    let judged = admitted r (λ i. omega (arith, c.type_inv.bytes i)) c.standing_of-standing.ensures c.shape_of.ensures c.admit.ensures in
    principal-denied (caller_of a.security_model a.security_name.now a.security_level) (edit_of a.o a.t a.bytes.now) _ r.sound
    (sym c.is_caller.ensures ∙ c.if-not-is_caller.false) r.legal r.laid
    (handed_on c.in_err-admit.was c.from_residual-in_err-admit.ensures ∙ judged) (refusal c.from_residual-in_err-admit.ensures)

pub edit-requires : goal.edit-requires
edit-requires c =
    let a = c.args in
    let r = ready a.o a.t a.store.now a.bytes.now (sym c.in_ok-l.was ∙ c.prepare.ensures) in
    let judged = admitted r (λ i. omega (arith, c.type_inv.bytes i)) c.standing_of-standing.ensures c.shape_of.ensures c.admit.ensures in record {
      store = record { sound = r.sound; laid = r.laid; free = λ e. granted-free _ _ (sym c.in_ok-admit.was ∙ judged) };
      handed = record { whole = r.whole; key_is = r.key_is };
    }

pub returns : goal.returns
returns c =
    let a = c.args in
    let r = ready a.o a.t a.store.now a.bytes.now (sym c.in_ok-l.was ∙ c.prepare.ensures) in
    let judged = admitted r (λ i. omega (arith, c.type_inv.bytes i)) c.standing_of-standing.ensures c.shape_of.ensures c.admit.ensures in
    principal-granted (caller_of a.security_model a.security_name.now a.security_level) (edit_of a.o a.t a.bytes.now) _ r.sound
    (sym c.is_caller.ensures ∙ c.if-not-is_caller.false) r.legal r.laid (sym c.in_ok-admit.was ∙ judged) c.edit.ensures
