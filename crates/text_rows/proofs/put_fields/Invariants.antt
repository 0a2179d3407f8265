-- `text_rows::put_fields` meets its contract. The loop's invariant: the fields from i on lie from k on, and their text is still to be put
-- (`Left`). A turn puts the space and the field at k, and goes on where it ends. Assumes nothing.
use lib.ListN.{take, drop}
use Rattle.rows.specs.Fields.{values}
use Rattle.rows.specs.Rows.{row_fields}
use Rattle.text_rows.specs.RowText.{fields_text}
use Rattle.text_rows.proofs.RowText.{Left}
use Rattle.text_rows.proofs.put_fields.Given as goal

abbrev pub invariant-loop-i : goal.invariant-loop-i
invariant-loop-i l =
    Left (fields_text (take l.n (row_fields l.t)) (values (take l.n (row_fields l.t)) l.row)) l.at l.initial.out (drop l.i (take l.n (row_fields l.t))) l.row l.k l.o l.out
