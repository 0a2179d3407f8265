use mathlib.Core.Path.{◌≡◌, sym, ap, ◌∙◌}
use mathlib.Core.Bool.{false}
use Prim.Native.Nat.{suc, ◌+◌, ◌-◌}
use native.Mathlib.Omega.{arith}
use Rattle.edit_rules.specs.Types.{Edited}
use Rattle.edit_rules.specs.Edits.{Edit, edit_of}
use Rattle.set_rules.specs.Sets.{is_done, answer_at, first_refused}
use Rattle.set_rules.specs.Handed.{edit_in, place_in, edits_from}
use Rattle.set_rules.proofs.Accepted.{undone}
use Rattle.set_judge.specs.Asked.{judged_with}
use Rattle.set_judge.proofs.Places.{edits-none, refused-here, refused-next}
use Rattle.set_judge.proofs.judge_edits.Goals as goal

-- in a turn the edit at i is judged

pub loop-i-init : goal.loop-i-init
loop-i-init c =
    let judged_of : Edit → Edited = let a = c.args in judged_with a.w.now a.l a.standing in
    let a = c.args in
    let z : a.count - 0 ≡ a.count = omega arith in
    (omega arith, ap (λ n. first_refused judged_of 1 (edits_from a.edits a.bytes.now 0 n)) z)

pub bounds-edits-i : goal.bounds-edits-i
bounds-edits-i c = omega (arith, c.loop-i-test.true, c.requires.few)

pub judge_edit-answer-requires : goal.judge_edit-answer-requires
judge_edit-answer-requires c = c.requires.judging

pub returns-in_default : goal.returns-in_default
returns-in_default c =
    let here : Edit = let a = c.args in edit_in (place_in a.edits c.loop-i.i) a.bytes.now in
    let judged_of : Edit → Edited = let a = c.args in judged_with a.w.now a.l a.standing in
    let judged-is : c.judge_edit-answer.result ≡ judged_of (here) = let e = here in c.judge_edit-answer.ensures ∙ ap (λ v. judged_of (edit_of e.operation e.table v)) c.bytes_of.ensures in
    let l = c.loop-i in
    let a = c.args in
    let d : is_done (judged_of here) ≡ false =
    ap is_done (sym judged-is) ∙ undone c.judge_edit-answer.result (c.in_default.not-Ok tt) in
    ap (λ r. answer_at r (l.i + 1)) judged-is
    ∙ sym (refused-here judged_of a.edits a.bytes.now l.i a.count c.loop-i-test.true d)
    ∙ l.invariant.1

pub loop-i-preserved : goal.loop-i-preserved
loop-i-preserved c =
    let judged_of : Edit → Edited = let a = c.args in judged_with a.w.now a.l a.standing in
    let here : Edit = let a = c.args in edit_in (place_in a.edits c.loop-i.i) a.bytes.now in
    let judged-is : c.judge_edit-answer.result ≡ judged_of (here) = let e = here in c.judge_edit-answer.ensures ∙ ap (λ v. judged_of (edit_of e.operation e.table v)) c.bytes_of.ensures in
    let l = c.loop-i in
    let a = c.args in (
      omega (arith, c.loop-i-test.true),
      refused-next judged_of a.edits a.bytes.now l.i a.count c.loop-i-test.true (ap is_done (sym judged-is ∙ c.in-Ok.is))
          ∙ l.invariant.1,
    )

pub returns : goal.returns
returns c =
    let judged_of : Edit → Edited = let a = c.args in judged_with a.w.now a.l a.standing in
    let l = c.loop-i in
    let a = c.args in
    sym (ap (first_refused judged_of (suc l.i)) (edits-none a.edits a.bytes.now l.i a.count (omega (arith, c.loop-i-test.false)))) ∙ l.invariant.1
