-- The text is put part by part: what is left of it still fits, and with the key nothing is left. Assumes nothing.
use mathlib.Core.List.{[], ◌∷◌}
use Rattle.rows.specs.Fields.{values}
use Rattle.rows.specs.Rows.{key_fields}
use Rattle.text_values.specs.Texts.{decimal_text}
use Rattle.text_values.proofs.Puts.{Onward, start as begun, room, step, last}
use Rattle.text_rows.specs.RowText.{key_text}
use Rattle.call_answers.specs.Answers.{column_key_of}
use Rattle.call_answers.proofs.Room.{begun-fits}
use Rattle.call_answers.proofs.put_column_key.Goals as goal

pub put_decimal-space-requires : goal.put_decimal-space-requires
put_decimal-space-requires c =
    let a = c.args in
    begun-fits (decimal_text a.column) (32 ∷ key_text a.t (values (key_fields a.t) a.key.now)) a.at a.out.now c.requires.room

pub put_octet-next-requires : goal.put_octet-next-requires
put_octet-next-requires c =
    let counted : let a = c.args in Onward (column_key_of a.t a.column a.key.now) a.at a.out.now (32 ∷ key_text a.t (values (key_fields a.t) a.key.now)) c.put_decimal-space.result c.put_decimal-space.new.out = step (decimal_text c.args.column) _ (begun c.requires.room) c.put_decimal-space.ensures in
    room (32 ∷ []) _ counted

pub put_entry-requires : goal.put_entry-requires
put_entry-requires c =
    let counted : let a = c.args in Onward (column_key_of a.t a.column a.key.now) a.at a.out.now (32 ∷ key_text a.t (values (key_fields a.t) a.key.now)) c.put_decimal-space.result c.put_decimal-space.new.out = step (decimal_text c.args.column) _ (begun c.requires.room) c.put_decimal-space.ensures in
    let spaced : let a = c.args in Onward (column_key_of a.t a.column a.key.now) a.at a.out.now (key_text a.t (values (key_fields a.t) a.key.now)) c.put_octet-next.result c.put_octet-next.new.out = step (32 ∷ []) _ counted c.put_octet-next.ensures in
    record { legal = c.requires.legal; room = spaced.fits }

pub returns : goal.returns
returns c =
    let counted : let a = c.args in Onward (column_key_of a.t a.column a.key.now) a.at a.out.now (32 ∷ key_text a.t (values (key_fields a.t) a.key.now)) c.put_decimal-space.result c.put_decimal-space.new.out = step (decimal_text c.args.column) _ (begun c.requires.room) c.put_decimal-space.ensures in
    let spaced : let a = c.args in Onward (column_key_of a.t a.column a.key.now) a.at a.out.now (key_text a.t (values (key_fields a.t) a.key.now)) c.put_octet-next.result c.put_octet-next.new.out = step (32 ∷ []) _ counted c.put_octet-next.ensures in
    last _ spaced c.put_entry.ensures
