-- `walk_rows::is_row_readable` meets its contract: the key at a whole row's front is legal and has the row's index (`Keys`). Assumes nothing.
use mathlib.Core.Path.{◌≡◌, sym, ap, ◌∙◌}
use mathlib.Core.List.{List}
use Prim.Native.Nat.{ℕ, ◌-◌}
use native.Mathlib.Omega.{arith}
use lib.ListN.{take}
use Rattle.numbers.specs.BigEndian.{Octets}
use Rattle.rows.proofs.Appends.{key_room}
use Rattle.decision_parts.specs.Parts.{rows_of}
use Rattle.instance_encode.specs.Instances.{instance}
use Rattle.table_update.proofs.Stores.{row_key}
use Rattle.edit_rules.proofs.Keys.{key-part}
use Rattle.walk_rows.specs.Reading.{readable}
use Rattle.walk_rows.proofs.Keys.{key_legal, key-index}
use Rattle.walk_rows.proofs.is_row_readable.Goals as goal

pub slice_bounds-is_readable-end : goal.slice_bounds-is_readable-end
slice_bounds-is_readable-end c = omega (arith, c.key_end-n.ensures, key_room c.args.t c.args.row.now c.requires.whole)

pub is_readable-requires : goal.is_readable-requires
is_readable-requires c =
    let key : List ℕ = take (c.key_end-n.result - 0) c.args.row.now in
    let row-octets : Octets c.args.row.now = λ i. omega (arith, c.shared_slice_known-2-1.given i) in
    let key_is : key ≡ row_key c.args.t c.args.row.now = key-part c.args.t c.args.row.now (sym c.key_end-n.ensures) in
    record { view = c.requires.view; listed = c.requires.listed; whole = key_legal c.args.t c.args.row.now key row-octets c.requires.whole key_is }

pub returns : goal.returns
returns c =
    let key : List ℕ = take (c.key_end-n.result - 0) c.args.row.now in
    let row-octets : Octets c.args.row.now = λ i. omega (arith, c.shared_slice_known-2-1.given i) in
    let key_is : key ≡ row_key c.args.t c.args.row.now = key-part c.args.t c.args.row.now (sym c.key_end-n.ensures) in
    c.is_readable.ensures ∙ ap (λ i. readable (rows_of c.args.w.now c.args.v) (instance c.args.t c.args.column i))
    (key-index c.args.t c.args.row.now key row-octets c.requires.whole key_is)
