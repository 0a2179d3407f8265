use native.Mathlib.Omega.{arith}
use Rattle.decision_find.proofs.Scans.{scan-length, scan-row, scan-whole}
use Rattle.decision_find.proofs.Best.{best-start, best_in_place, best-above, best-below, best-end}
use Rattle.decision_find.proofs.find_access.Goals as goal
use Rattle.decision_find.proofs.find_access.Goals.{then-best-r, else-best-r}

pub loop-i-init : goal.loop-i-init
loop-i-init c = best_in_place (best-start _ c.requires)

pub pair_at-requires : goal.pair_at-requires
pair_at-requires c = scan-length c.loop-i.invariant.scan c.loop-i-test.true

pub overflow_add-e : goal.overflow_add-e
overflow_add-e c =
    omega (arith, scan-row c.loop-i.invariant.scan c.loop-i-test.true _ c.pair_at.ensures.number)

pub slice_bounds-rank-end : goal.slice_bounds-rank-end
slice_bounds-rank-end c = scan-row c.loop-i.invariant.scan c.loop-i-test.true _ c.pair_at.ensures.number

pub rank-r-requires : goal.rank-r-requires
rank-r-requires c = scan-whole c.loop-i.invariant.scan c.loop-i-test.true _ c.pair_at.ensures.number

pub loop-i-preserved : goal.loop-i-preserved
loop-i-preserved c =
    let k = c.loop-i.invariant in
    let h = c.loop-i-test.true in
    let e = c.pair_at.ensures.number in
    elim c.if-best-r.branch [
      | then-best-r a ↦ rw (a.best-is, a.found-is) (best_in_place (best-above k h _ e _ c.rank-r.ensures a.if-best-r.true))
      | else-best-r a ↦ rw (a.best-is, a.found-is) (best_in_place (best-below k h _ e _ c.rank-r.ensures a.if-best-r.false))
    ]

pub returns : goal.returns
returns c = best-end _ _ _ _ c.loop-i.invariant c.requires c.loop-i-test.false
