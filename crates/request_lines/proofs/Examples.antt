-- Document 01's example of the program `tryreq`, by computing. Assumes nothing.
use mathlib.Core.Path.{refl}
use mathlib.Core.Option.{bind}
use Rattle.numbers.specs.Order.{same, before}
use Rattle.rows.specs.Fields.{sequence_fault, integer_fault, faults}
use Rattle.rows.specs.Rows.{key_fields, row_fields}
use Rattle.image_layout.specs.Layout.{laid_out, layout_of}
use Rattle.image.specs.Image.{image_fault, sized_fault}
use Rattle.image_judge.specs.Faults.{rows_fault, table_fault, tables_at}
use Rattle.decision_steps.specs.Request.{legal_request}
use Rattle.decision_steps.specs.Decision.{decision, bears_context, maps_principal}
use Rattle.text_words.specs.Words.{split, digits_from, decimal, hex_digit, hex_pairs, hex_octets, decimals, dotted}
use Rattle.text_values.specs.Texts.{digits, decimal_text}
use Rattle.line_fields.specs.Kinds.{kind_said, values_said}
use Rattle.line_fields.specs.Requests.{request}
use Rattle.request_lines.specs.Answers.{line_answer}
use Rattle.program_io.specs.Lines.{lines_of}
use Rattle.request_lines.specs.Report.{told, report, written}
use Rattle.request_lines.specs.Examples.{P12Written}

pub p12-written : P12Written
unfolding written image_fault sized_fault rows_fault table_fault faults sequence_fault integer_fault laid_out layout_of key_fields row_fields before same tables_at
    lines_of split report line_answer request values_said kind_said bind decimal digits_from hex_octets hex_pairs hex_digit dotted decimals legal_request decision
    bears_context maps_principal told decimal_text digits
p12-written = refl
