-- `walk_rows::is_row_above` meets its contract: the key at a whole row's front is legal, and its runs are the row's index (`Keys`). Assumes nothing.
use mathlib.Core.Path.{◌≡◌, sym, ap, ◌∙◌}
use mathlib.Core.List.{List}
use Prim.Native.Nat.{ℕ, ◌-◌}
use native.Mathlib.Omega.{arith}
use lib.ListN.{take}
use Rattle.numbers.specs.BigEndian.{Octets}
use Rattle.numbers.specs.Order.{before}
use Rattle.table_update.proofs.Stores.{row_key}
use Rattle.edit_rules.proofs.Keys.{key-part}
use Rattle.rows.proofs.Appends.{key_room}
use Rattle.walk_rows.proofs.Keys.{key_legal, runs-room, runs-index}
use Rattle.walk_rows.proofs.is_row_above.Goals as goal

pub slice_bounds-quads_of-end : goal.slice_bounds-quads_of-end
slice_bounds-quads_of-end c = omega (arith, c.key_end-n.ensures, key_room c.args.t c.args.row.now c.requires)

pub quads_of-quads-requires : goal.quads_of-quads-requires
quads_of-quads-requires c =
    let key : List ℕ = take (c.key_end-n.result - 0) c.args.row.now in
    let row-octets : Octets c.args.row.now = λ i. omega (arith, c.shared_slice_known-1.given i) in
    key_legal c.args.t c.args.row.now key row-octets c.requires (key-part c.args.t c.args.row.now (sym c.key_end-n.ensures))

pub slice_bounds-is_above-end : goal.slice_bounds-is_above-end
slice_bounds-is_above-end c = omega (arith, c.key_end-n.ensures, key_room c.args.t c.args.row.now c.requires)

-- where the quads were found

pub is_above-requires : goal.is_above-requires
is_above-requires c =
    let key : List ℕ = take (c.key_end-n.result - 0) c.args.row.now in
    let row-octets : Octets c.args.row.now = λ i. omega (arith, c.shared_slice_known-1.given i) in
    let key_is : key ≡ row_key c.args.t c.args.row.now = key-part c.args.t c.args.row.now (sym c.key_end-n.ensures) in
    runs-room c.args.t c.args.row.now key row-octets c.requires key_is c.quads_of-quads.ensures.place c.quads_of-quads.ensures.number

pub returns : goal.returns
returns c =
    let key : List ℕ = take (c.key_end-n.result - 0) c.args.row.now in
    let row-octets : Octets c.args.row.now = λ i. omega (arith, c.shared_slice_known-1.given i) in
    let key_is : key ≡ row_key c.args.t c.args.row.now = key-part c.args.t c.args.row.now (sym c.key_end-n.ensures) in
    c.is_above.ensures ∙ ap (before c.args.parts.now)
    (runs-index c.args.t c.args.row.now key row-octets c.requires key_is c.quads_of-quads.ensures.place c.quads_of-quads.ensures.number)
