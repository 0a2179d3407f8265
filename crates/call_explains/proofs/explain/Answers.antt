-- `call_explains::explain` meets its contract: each slot lies in its buffer, and the request is of what the slots hold. Assumes nothing.
use native.Mathlib.Omega.{arith}
use Rattle.image.specs.Store.{held}
use Rattle.line_fields.proofs.RequestSlots.{same-request}
use Rattle.call_explains.proofs.Shown.{told-as}
use Rattle.call_explains.proofs.explain.Goals as goal

pub number_in-model-requires : goal.number_in-model-requires
number_in-model-requires c = c.requires.slots.within 0 (omega arith)

pub number_in-level-requires : goal.number_in-level-requires
number_in-level-requires c = c.requires.slots.within 1 (omega arith)

pub number_in-view_type-requires : goal.number_in-view_type-requires
number_in-view_type-requires c = c.requires.slots.within 2 (omega arith)

pub octets_in-name-requires : goal.octets_in-name-requires
octets_in-name-requires c = c.requires.slots.within 3 (omega arith)

pub octets_in-context-requires : goal.octets_in-context-requires
octets_in-context-requires c = c.requires.slots.within 4 (omega arith)

pub identifier_in-variable-requires : goal.identifier_in-variable-requires
identifier_in-variable-requires c = c.requires.slots.within 5 (omega arith)

pub returns : goal.returns
returns c =
    told-as (held c.args.store.now)
    (same-request c.number_in-model.ensures c.octets_in-name.ensures c.number_in-level.ensures c.number_in-view_type.ensures c.octets_in-context.ensures
    c.identifier_in-variable.ensures) c.tell_explanation.ensures
