-- `table_update::exchange` meets its contract. Where the place and the image's end are as required, the bytes split at the place (`swap`), so
-- that each part that the splice moves or fills lies within w; and what it and the count make of w is the image of the tables with the row
-- exchanged (`exchanges`). Assumes nothing.
use mathlib.Core.Path.{ap}
use Prim.Native.Nat.{◌+◌, ◌*◌}
use native.Mathlib.Omega.{arith}
use Rattle.std.proofs.Common.{rules}
use lib.Dec.{ltb}
use lib.ListN.{length, length-take}
use Rattle.table_update.proofs.Exchanges.{swap, few-rows, exchanges-row, held-most, held-one}
use Rattle.table_update.proofs.exchange.Goals as goal

pub overflow_mul-place : goal.overflow_mul-place
overflow_mul-place c = let h = swap (λ i. omega (arith, c.type_inv.w i)) c.requires.place in omega (arith, c.ranges.end)

pub overflow_add-place : goal.overflow_add-place
overflow_add-place c = let h = swap (λ i. omega (arith, c.type_inv.w i)) c.requires.place in omega (arith, c.ranges.end)

pub splice_two-requires : goal.splice_two-requires
splice_two-requires c =
    let h = swap (λ i. search rules) c.requires.place in
    let a = c.args in
    let r = c.requires.room.row_fits in
    let d = held-one a.p.present c.from-had.ensures in
    let n = length-take (2 * c.from-has.result) c.to_be_bytes-head.result in
    record { first = omega arith; second = omega arith; inside = omega arith; room = omega (arith, held-most (ltb 0 (length a.row.now)) c.from-has.ensures) }

pub overflow_add-w : goal.overflow_add-w
overflow_add-w c =
    let few = few-rows (λ i. search rules) c.requires.place in
    omega (arith, held-most c.args.p.present c.from-had.ensures, held-most (ltb 0 (length c.args.row.now)) c.from-has.ensures)

pub overflow_cast-w : goal.overflow_cast-w
overflow_cast-w c =
    let few = few-rows (λ i. search rules) c.requires.place in
    omega (arith, held-most c.args.p.present c.from-had.ensures, held-most (ltb 0 (length c.args.row.now)) c.from-has.ensures)

pub returns : goal.returns
returns c = exchanges-row (λ i. search rules) c.requires.place c.args.row.now c.to_be_bytes-head.ensures (omega arith) c.requires.room.length_said c.splice_two.ensures
    (held-one c.args.p.present c.from-had.ensures) (held-one (ltb 0 (length c.args.row.now)) c.from-has.ensures) (ap (λ n. 2 * n + 1) c.position_of.ensures) c.splice_two.auto.w
