-- `call_words::decide` meets its contract: each slot lies in its buffer, and the request is of what the slots hold. Assumes nothing.
use mathlib.Core.Path.{ap, ◌∙◌}
use native.Mathlib.Omega.{arith}
use Rattle.image.specs.Store.{held}
use Rattle.decision_steps.specs.Decision.{answer}
use Rattle.decision.proofs.Answers.{decides}
use Rattle.calls.specs.Does.{decided, asks}
use Rattle.line_fields.proofs.RequestSlots.{same-request}
use Rattle.call_words.proofs.decide.Goals as goal

pub number_in-requires : goal.number_in-requires
number_in-requires c = c.requires.within 0 (omega arith)

pub octets_in-requires : goal.octets_in-requires
octets_in-requires c = c.requires.within 3 (omega arith)

pub number_in-requires-2 : goal.number_in-requires-2
number_in-requires-2 c = c.requires.within 1 (omega arith)

pub number_in-requires-3 : goal.number_in-requires-3
number_in-requires-3 c = c.requires.within 2 (omega arith)

pub octets_in-requires-2 : goal.octets_in-requires-2
octets_in-requires-2 c = c.requires.within 4 (omega arith)

pub identifier_in-requires : goal.identifier_in-requires
identifier_in-requires c = c.requires.within 5 (omega arith)

pub returns : goal.returns
returns c =
    record {
      reply = decided c.is_access_allowed-answer.result;
      does =
          asks
          (decides _ _
          (c.is_access_allowed-answer.ensures.answer_is
          ∙ ap (answer (held c.args.store.now))
          (same-request c.number_in.ensures c.octets_in.ensures c.number_in-2.ensures c.number_in-3.ensures c.octets_in-2.ensures
          c.identifier_in.ensures)));
      number_is = c.answer_number.ensures;
    }
