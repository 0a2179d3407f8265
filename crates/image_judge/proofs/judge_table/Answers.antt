use mathlib.Core.Path.{◌≡◌, sym, ◌∙◌}
use mathlib.Core.Bool.{true}
use Prim.Native.Nat.{◌+◌}
use native.Mathlib.Omega.{arith}
use Rattle.numbers.specs.Order.{before}
use Rattle.answers.proofs.Results.{handed_on}
use Rattle.image_layout.proofs.Walks.{piece, walk_start, walk-row, walk-next, in_place}
use Rattle.image_judge.proofs.Judged.{turn, judged-start, judged-bad, key-within, judged-low, judged-first, judged-next, judged-end}
use Rattle.image_judge.proofs.judge_table.Goals.{else-before-key-via-then-before-key+else-not-ascends, else-before-key-via-else-before-key}
use Rattle.image_judge.proofs.judge_table.Goals as goal

pub loop-i-init : goal.loop-i-init
loop-i-init c =
    let s = c.args in
    (in_place (walk_start s.w.now s.x), judged-start s.t s.w.now s.x _, omega arith, omega arith)

-- the row lies within w

pub slice_bounds-judge_row-end : goal.slice_bounds-judge_row-end
slice_bounds-judge_row-end c = walk-row c.loop-i.invariant.0 _ c.loop-i-test.true c.pair_at.ensures.number c.requires

-- it is judged

pub returns-in_err-end : goal.returns-in_err-end
returns-in_err-end c =
    let v = c.loop-i.invariant in
    let n = turn (λ i. omega (arith, c.type_inv.w i)) v.0 v.1 c.loop-i-test.true c.pair_at.ensures.number c.judge_row.ensures in
    handed_on c.in_err-end.was c.from_residual.ensures ∙ judged-bad n c.in_err-end.was

-- its key lies within it

pub overflow_add-end : goal.overflow_add-end
overflow_add-end c =
    let v = c.loop-i.invariant in
    let n = turn (λ i. omega (arith, c.type_inv.w i)) v.0 v.1 c.loop-i-test.true c.pair_at.ensures.number c.judge_row.ensures in
    omega (arith, key-within n c.in_ok-end.was, walk-row v.0 _ c.loop-i-test.true c.pair_at.ensures.number c.requires)

pub slice_bounds-ascends-end-then-before-key : goal.slice_bounds-ascends-end-then-before-key
slice_bounds-ascends-end-then-before-key c =
    let v = c.loop-i.invariant in
    let n = turn (λ i. omega (arith, c.type_inv.w i)) v.0 v.1 c.loop-i-test.true c.pair_at.ensures.number c.judge_row.ensures in
    omega (arith, key-within n c.in_ok-end.was, walk-row v.0 _ c.loop-i-test.true c.pair_at.ensures.number c.requires)

pub returns-then-not-ascends : goal.returns-then-not-ascends
returns-then-not-ascends c =
    let v = c.loop-i.invariant in
    let n = turn (λ i. omega (arith, c.type_inv.w i)) v.0 v.1 c.loop-i-test.true c.pair_at.ensures.number c.judge_row.ensures in
    judged-low n c.in_ok-end.was (sym c.ascends.ensures ∙ c.if-not-ascends.true)

pub loop-i-preserved : goal.loop-i-preserved
loop-i-preserved c =
    let v = c.loop-i.invariant in
    let n = turn (λ i. omega (arith, c.type_inv.w i)) v.0 v.1 c.loop-i-test.true c.pair_at.ensures.number c.judge_row.ensures in
    let p = c.in_ok-end.was in
    let e : before (piece c.args.w.now c.loop-i.before c.loop-i.key) (piece c.args.w.now c.loop-i.o (c.loop-i.o + c.in_ok-end.field-0)) ≡ true =
    elim c.else-before-key.branch [
      | else-before-key-via-then-before-key+else-not-ascends u ↦ sym u.ascends.ensures ∙ u.if-not-ascends.false
      | else-before-key-via-else-before-key u ↦ judged-first n p (omega (arith, u.if-before-key.false, v.2))
    ] in (
      in_place (walk-next v.0 _ c.loop-i-test.true c.pair_at.ensures.number),
      judged-next n p e,
      omega arith,
      omega (arith, key-within n p),
    )

pub returns : goal.returns
returns c = let v = c.loop-i.invariant in judged-end v.0 v.1 c.loop-i-test.false
