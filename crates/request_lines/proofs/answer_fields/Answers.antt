-- `request_lines::answer_fields` meets its contract: each slot lies in its buffer, and the request is of what the slots hold. Assumes nothing.
use mathlib.Core.Path.{ap, ◌∙◌}
use native.Mathlib.Omega.{arith}
use Rattle.answers.specs.Numbers.{answer_number}
use Rattle.decision_steps.specs.Decision.{answer_on}
use Rattle.line_fields.proofs.RequestSlots.{same-request}
use Rattle.request_lines.proofs.answer_fields.Goals as goal

pub number_in-requires : goal.number_in-requires
number_in-requires c = c.requires.slots.within 0 (omega arith)

pub octets_in-requires : goal.octets_in-requires
octets_in-requires c = c.requires.slots.within 3 (omega arith)

pub number_in-requires-2 : goal.number_in-requires-2
number_in-requires-2 c = c.requires.slots.within 1 (omega arith)

pub number_in-requires-3 : goal.number_in-requires-3
number_in-requires-3 c = c.requires.slots.within 2 (omega arith)

pub octets_in-requires-2 : goal.octets_in-requires-2
octets_in-requires-2 c = c.requires.slots.within 4 (omega arith)

pub identifier_in-requires : goal.identifier_in-requires
identifier_in-requires c = c.requires.slots.within 5 (omega arith)

pub answer_request-answer-requires : goal.answer_request-answer-requires
answer_request-answer-requires c = c.requires.sound

pub returns : goal.returns
returns c =
    c.answer_number.ensures
    ∙ ap answer_number
    (c.answer_request-answer.ensures
    ∙ ap (answer_on _)
    (same-request c.number_in.ensures c.octets_in.ensures c.number_in-2.ensures c.number_in-3.ensures c.octets_in-2.ensures
    c.identifier_in.ensures))
