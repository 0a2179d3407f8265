-- `text_rows::put_entry` meets its contract: the table's word and the fields, which are the first of the row's, are put one after the other.
-- Assumes nothing.
use mathlib.Core.List.{List}
use Prim.Native.Nat.{ℕ}
use Rattle.rows.specs.Fields.{values}
use Rattle.rows.specs.Rows.{fields_of}
use Rattle.text_rows.proofs.RowText.{word_room, fields-room, entry-put}
use Rattle.text_rows.proofs.put_entry.Goals as goal

-- what the fields hold

pub put_table-next-requires : goal.put_table-next-requires
put_table-next-requires c =
    let fields : List (List ℕ) = let a = c.args in values (fields_of a.s a.t) a.bytes.now in
    let a = c.args in
    word_room a.s a.t fields a.at a.out.now c.requires.room

pub put_fields-requires : goal.put_fields-requires
put_fields-requires c =
    let fields : List (List ℕ) = let a = c.args in values (fields_of a.s a.t) a.bytes.now in
    let a = c.args in
    let k = c.field_count.ensures in record { whole = record { places = k.inside; sound = rw k.fields_are c.requires.legal }; room = rw k.fields_are (fields-room a.s a.t fields a.at a.out.now c.requires.room c.put_table-next.ensures) }

pub returns : goal.returns
returns c =
    let fields : List (List ℕ) = let a = c.args in values (fields_of a.s a.t) a.bytes.now in
    let a = c.args in
    entry-put a.s a.t fields a.at a.out.now c.requires.room c.put_table-next.ensures
    (rw c.field_count.ensures.fields_are at c.put_fields.ensures)
