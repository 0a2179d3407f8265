-- P1 to P12 hold, one after the other: what the definitions give computes, of the C call from the very bytes of the image. Assumes nothing.
use mathlib.Core.Path.{refl}
use Rattle.numbers.specs.Order.{same, before, begins}
use Rattle.rows.specs.Fields.{sequence_fault, integer_fault, faults}
use Rattle.rows.specs.Rows.{key_fields, row_fields}
use Rattle.image_layout.specs.Layout.{laid_out, layout_of}
use Rattle.image_judge.specs.Faults.{rows_fault, table_fault, tables_at}
use Rattle.image.specs.Image.{image_fault, sized_fault}
use Rattle.decision_steps.specs.Request.{legal_request}
use Rattle.decision_steps.specs.Bytes.{identifier}
use Rattle.decision_steps.specs.Decision.{decision, bears_context, maps_principal, context_fits, candidate, chosen_access, view_for, in_view, mask_bit}
use Rattle.decision_steps.specs.Decision.{agrees, matches, chosen_view}
use Rattle.image_transfer.specs.Transfer.{image_of, rows_of}
use Rattle.dugwalen.specs.CCall.{request_number, call_number}
use Rattle.ridge.specs.Examples.{ExamplesHold}

pub examples-hold : ExamplesHold
unfolding decision legal_request bears_context maps_principal context_fits candidate chosen_access view_for in_view mask_bit agrees matches chosen_view same
    before begins key_fields row_fields image_of rows_of image_fault sized_fault rows_fault table_fault faults sequence_fault integer_fault laid_out layout_of
    tables_at identifier request_number call_number
examples-hold = (refl, (refl, (refl, (refl, (refl, (refl, (refl, (refl, (refl, (refl, (refl, (refl, tt))))))))))))
