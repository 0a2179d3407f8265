-- `call_walks::walk` meets its contract: the model, the name, the level and the identifier are of what the slots hold. Assumes nothing.
use native.Mathlib.Omega.{arith}
use Rattle.call_walks.proofs.Walks.{told-walk}
use Rattle.call_walks.proofs.walk.Goals as goal

pub number_in-model-requires : goal.number_in-model-requires
number_in-model-requires c = c.requires.slots.within 0 (omega arith)

pub octets_in-name-requires : goal.octets_in-name-requires
octets_in-name-requires c = c.requires.slots.within 1 (omega arith)

pub number_in-level-requires : goal.number_in-level-requires
number_in-level-requires c = c.requires.slots.within 2 (omega arith)

pub identifier_in-identifier-requires : goal.identifier_in-identifier-requires
identifier_in-identifier-requires c = c.requires.slots.within 3 (omega arith)

pub returns : goal.returns
returns c = told-walk c.number_in-model.ensures c.octets_in-name.ensures c.number_in-level.ensures c.identifier_in-identifier.ensures c.tell_walk.ensures
