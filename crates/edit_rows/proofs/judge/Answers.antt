-- `edit_rows::judge` meets its contract. The key at the front of the bytes is sought in its table, and what is judged at its place is what stands
-- against the edit among the tables (`Stores`). Assumes nothing.
use mathlib.Core.Path.{ap, ◌∙◌}
use native.Mathlib.Omega.{arith}
use Rattle.numbers.specs.BigEndian.{Octets}
use Rattle.image_layout.specs.Layout.{layout_of, extent_of}
use Rattle.table_update.specs.Exchange.{Sought}
use Rattle.table_update.proofs.Stores.{row_key}
use Rattle.edit_rules.specs.Edits.{shape_of, faulted}
use Rattle.edit_rows.proofs.Stores.{inside-laid, rising-laid, sought-laid, key-within, storage-known, fault-is}
use Rattle.edit_rows.proofs.judge.Goals as goal

pub slice_bounds-seek-end : goal.slice_bounds-seek-end
slice_bounds-seek-end c = omega (arith, key-within (shape_of c.args.o) c.args.t c.args.bytes.now c.requires.handed.whole, c.requires.handed.key_is)

pub seek-p-requires : goal.seek-p-requires
seek-p-requires c =
    let store_bytes : Octets c.args.w.now = λ i. omega (arith, c.type_inv.w i) in
    let handed-bytes : Octets c.args.bytes.now = λ i. omega (arith, c.type_inv.bytes i) in
    let a = c.args in record {
      inside = inside-laid c.requires.store.sound c.requires.store.laid a.t c.extent_of-x.ensures;
      rising = rising-laid (shape_of a.o) a.t a.w.now a.bytes.now c.requires.store.sound store_bytes handed-bytes c.requires.handed.whole c.requires.store.laid
          c.extent_of-x.ensures c.requires.handed.key_is;
    }

pub judge_place-requires : goal.judge_place-requires
judge_place-requires c =
    let store_bytes : Octets c.args.w.now = λ i. omega (arith, c.type_inv.w i) in
    let handed-bytes : Octets c.args.bytes.now = λ i. omega (arith, c.type_inv.bytes i) in
    let sought : let a = c.args in Sought a.w.now (extent_of a.t (layout_of a.w.now)) (row_key a.t a.bytes.now) c.seek-p.result = sought-laid c.args.t c.args.w.now c.args.bytes.now c.requires.store.laid c.extent_of-x.ensures c.requires.handed.key_is c.seek-p.ensures in
    storage-known _ _ c.requires.store.sound store_bytes c.args.strict c.requires.store.free _ handed-bytes sought c.args.o c.requires.handed.whole

pub returns : goal.returns
returns c =
    let store_bytes : Octets c.args.w.now = λ i. omega (arith, c.type_inv.w i) in
    let handed-bytes : Octets c.args.bytes.now = λ i. omega (arith, c.type_inv.bytes i) in
    let sought : let a = c.args in Sought a.w.now (extent_of a.t (layout_of a.w.now)) (row_key a.t a.bytes.now) c.seek-p.result = sought-laid c.args.t c.args.w.now c.args.bytes.now c.requires.store.laid c.extent_of-x.ensures c.requires.handed.key_is c.seek-p.ensures in
    c.judge_place.ensures
    ∙ ap faulted (fault-is c.args.t _ c.requires.store.sound store_bytes c.args.strict c.requires.store.free _ handed-bytes sought c.args.o
    c.requires.handed.whole c.requires.store.laid)
