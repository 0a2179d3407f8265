use mathlib.Core.Path.{ap, ◌∙◌}
use native.Mathlib.Omega.{arith}
use lib.ListN.{length, take}
use Rattle.image_layout.proofs.Walks.{walk-next, walk-row, walk_end, in_place}
use Rattle.image_transfer.specs.Transfer.{overlaid}
use Rattle.image_transfer.proofs.Parts.{overlaid-part, length_part, room-row}
use Rattle.image_transfer.proofs.write_rows.Goals as goal

-- the next row lies within the store and within the buffer

pub slice_bounds-write_row-end : goal.slice_bounds-write_row-end
slice_bounds-write_row-end c =
    let v = c.loop-i.invariant in
    omega (arith, room-row v.0 c.loop-i-test.true c.pair_at.ensures.number c.requires, v.2)

pub slice_bounds-write_row-end-in-loop-i : goal.slice_bounds-write_row-end-in-loop-i
slice_bounds-write_row-end-in-loop-i c = walk-row c.loop-i.invariant.0 _ c.loop-i-test.true c.pair_at.ensures.number c.requires.inside

pub loop-i-preserved : goal.loop-i-preserved
loop-i-preserved c =
    let v = c.loop-i.invariant in
    let h = c.loop-i-test.true in
    let l = c.pair_at.ensures.number in
    let a = c.args in
    let e = walk-row v.0 _ h l c.requires.inside in
    let r = room-row v.0 h l c.requires in
    let o = overlaid-part a.store.now a.out.now c.loop-i.o c.pair_at.result e r v.1 c.write_row.ensures in
    (in_place (walk-next v.0 _ h l), o, ap length o ∙ length_part a.store.now a.out.now c.loop-i.o c.pair_at.result e r)

pub returns : goal.returns
returns c =
    let a = c.args in
    c.loop-i.invariant.1 ∙ ap (λ n. overlaid (take n a.store.now) a.out.now) (walk_end c.loop-i.invariant.0 c.loop-i-test.false)
