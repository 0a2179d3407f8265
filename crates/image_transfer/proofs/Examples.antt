-- P11 and P12 hold: both sides of each equation compute. A fresh store is what the promise of reading says of P11. Assumes nothing.
use mathlib.Core.Path.{refl}
use Rattle.numbers.specs.Order.{before}
use Rattle.rows.specs.Fields.{sequence_fault, faults}
use Rattle.rows.specs.Rows.{key_fields, row_fields}
use Rattle.image_layout.specs.Layout.{laid_out, layout_of}
use Rattle.image.specs.Image.{image_fault, sized_fault}
use Rattle.image_judge.specs.Faults.{rows_fault, table_fault, tables_at}
use Rattle.image_transfer.specs.Transfer.{rows_of, image_of}
use Rattle.image_transfer.specs.Examples.{P11, P12, Freshens}

pub p11-holds : P11
unfolding image_of rows_of row_fields image_fault sized_fault rows_fault table_fault faults sequence_fault before key_fields tables_at layout_of laid_out
p11-holds = record { written = refl; sound = refl; tables_are = refl }

pub p12-holds : P12
unfolding image_of rows_of row_fields image_fault sized_fault rows_fault table_fault faults sequence_fault before key_fields tables_at layout_of laid_out
p12-holds = record { written = refl; sound = refl; tables_are = refl }

pub fresh-store : Freshens
unfolding image_fault sized_fault rows_fault table_fault tables_at layout_of laid_out
fresh-store found after r k = (k.answer_is, k.rows_are k.answer_is)
