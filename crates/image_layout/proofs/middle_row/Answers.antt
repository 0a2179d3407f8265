-- `image_layout::middle_row` meets its contract: the sum of the lengths between is the place of the row in the middle, and both sums lie within the bytes
-- (`Bisections`). Assumes nothing.
use mathlib.Core.Path.{refl}
use native.Mathlib.Omega.{arith}
use Rattle.image_layout.proofs.Bisections.{middle-lengths, middle-start, middle-length, middle-row}
use Rattle.image_layout.proofs.middle_row.Goals as goal

pub sum-requires : goal.sum-requires
sum-requires c =
    let r = c.requires in
    record { inside = middle-lengths r.rows r.inside _ refl r.some; bounded = omega (arith, middle-start r.rows r.inside _ refl r.some refl) }

pub pair_at-requires : goal.pair_at-requires
pair_at-requires c = let r = c.requires in middle-length r.rows r.inside _ refl r.some c.sum.ensures

pub returns : goal.returns
returns c = let r = c.requires in middle-row r.rows r.inside _ refl r.some c.sum.ensures c.pair_at.ensures.number

pub overflow_add-from : goal.overflow_add-from
overflow_add-from c = let r = c.requires in omega (arith, middle-start r.rows r.inside _ refl r.some c.sum.ensures)

pub overflow_add-end : goal.overflow_add-end
overflow_add-end c =
    let r = c.requires in
    omega (arith, (middle-row r.rows r.inside _ refl r.some c.sum.ensures c.pair_at.ensures.number).end_in)
