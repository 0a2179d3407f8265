-- `set_judge::judge_edit` meets its contract: 7 for what is handed; what is not admitted is 12 or 1 to 5, the edit being judged by the index of the key at the
-- front of its bytes; then what stands against it at its row (`Judged`). Assumes nothing.
use mathlib.Core.Path.{sym, ◌∙◌}
use native.Mathlib.Omega.{arith}
use Rattle.answers.proofs.Results.{refusal, handed_on}
use Rattle.numbers.proofs.Bools.{cond-false}
use Rattle.edit_rules.specs.Edits.{edit_of, shape_of}
use Rattle.edit_rows.proofs.Stores.{key-within}
use Rattle.edits.proofs.Calls.{handed-illegal, front-whole, front-judged, granted-free}
use Rattle.set_judge.specs.Asked.{judged_with}
use Rattle.set_judge.proofs.Judged.{ready-edit, judged-denied, judged-granted}
use Rattle.set_judge.proofs.judge_edit.Goals as goal

pub returns-in_err-k : goal.returns-in_err-k
unfolding judged_with
returns-in_err-k c =
    let a = c.args in
    let h = handed-illegal a.o a.t a.bytes.now c.judge_handed.ensures (sym c.or.ensures ∙ c.in_err-k.was) in
    rw (refusal c.from_residual.ensures, h.0) (sym (cond-false _ _ h.1))

pub slice_bounds-admit-end : goal.slice_bounds-admit-end
slice_bounds-admit-end c =
    let a = c.args in
    let r = ready-edit a.w.now a.l a.standing c.requires a.o a.t a.bytes.now c.judge_handed.ensures (sym c.or.ensures ∙ c.in_ok-k.was) in
    omega (arith, key-within (shape_of a.o) a.t a.bytes.now r.whole, r.key_is)

pub admit-requires : goal.admit-requires
admit-requires c =
    let a = c.args in
    let r = ready-edit a.w.now a.l a.standing c.requires a.o a.t a.bytes.now c.judge_handed.ensures (sym c.or.ensures ∙ c.in_ok-k.was) in
    record { standing = c.requires.stands; whole = front-whole r (λ i. omega (arith, c.type_inv.bytes i)) }

pub returns-in_err-admit : goal.returns-in_err-admit
returns-in_err-admit c =
    let a = c.args in
    let r = ready-edit a.w.now a.l a.standing c.requires a.o a.t a.bytes.now c.judge_handed.ensures (sym c.or.ensures ∙ c.in_ok-k.was) in
    let judged = front-judged r (λ i. omega (arith, c.type_inv.bytes i)) a.standing c.shape_of.ensures c.admit.ensures in
    judged-denied a.w.now a.l a.standing (edit_of a.o a.t a.bytes.now) r.legal (handed_on c.in_err-admit.was c.from_residual-in_err-admit.ensures ∙ judged)
    (refusal c.from_residual-in_err-admit.ensures)

pub judge-requires : goal.judge-requires
judge-requires c =
    let a = c.args in
    let r = ready-edit a.w.now a.l a.standing c.requires a.o a.t a.bytes.now c.judge_handed.ensures (sym c.or.ensures ∙ c.in_ok-k.was) in
    let judged = front-judged r (λ i. omega (arith, c.type_inv.bytes i)) a.standing c.shape_of.ensures c.admit.ensures in record {
      store = record { sound = r.sound; laid = r.laid; free = λ e. granted-free _ _ (sym c.in_ok-admit.was ∙ judged) };
      handed = record { whole = r.whole; key_is = r.key_is };
    }

pub returns : goal.returns
returns c =
    let a = c.args in
    let r = ready-edit a.w.now a.l a.standing c.requires a.o a.t a.bytes.now c.judge_handed.ensures (sym c.or.ensures ∙ c.in_ok-k.was) in
    let judged = front-judged r (λ i. omega (arith, c.type_inv.bytes i)) a.standing c.shape_of.ensures c.admit.ensures in
    c.judge.ensures ∙ judged-granted a.w.now a.l a.standing (edit_of a.o a.t a.bytes.now) r.legal (sym c.in_ok-admit.was ∙ judged)
