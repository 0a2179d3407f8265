-- `text_rows::field_count` meets its contract: all fields of the row, or those of the key, which come first. Assumes nothing.
use mathlib.Core.Path.{ap, ◌∙◌}
use native.Mathlib.Omega.{arith}
use lib.ListN.{take}
use lib.Seq.{take-length}
use Rattle.rows.specs.Rows.{row_fields}
use Rattle.rows.proofs.Forms.{key-within}
use Rattle.text_rows.proofs.RowText.{key-fields}
use Rattle.text_rows.proofs.field_count.Goals as goal

pub returns-in-Row : goal.returns-in-Row
returns-in-Row c =
    let t = c.args.t in
    rw c.in-Row.is
    (record { fields_are = ap (λ n. take n (row_fields t)) c.row_len.ensures ∙ take-length (row_fields t); inside = omega (arith, c.row_len.ensures) })

pub returns-in-Key : goal.returns-in-Key
returns-in-Key c =
    let t = c.args.t in
    rw c.in-Key.is
    (record { fields_are = key-fields t c.key_len.ensures; inside = omega (arith, key-within t, c.key_len.ensures) })
