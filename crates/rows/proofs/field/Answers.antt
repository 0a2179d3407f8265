-- `rows::field` meets its contract: in each arm the form is known, and the step of its kind of field is the answer.
-- A number of one byte is judged as a count of parts without bytes. Assumes nothing.
use Rattle.rows.proofs.Steps.{octet-step}
use Rattle.rows.proofs.field.Goals as goal

pub returns-in-Small : goal.returns-in-Small
returns-in-Small c =
    let s = c.args in
    rw c.in-Small.is (octet-step _ _ s.row.now s.at c.sequence-in-Small.ensures)
