-- `call_tells::match_access` meets its contract: the group, the context, the model and the level are of what the slots hold. Assumes nothing.
use native.Mathlib.Omega.{arith}
use Rattle.call_tells.proofs.Tells.{told-access-match}
use Rattle.call_tells.proofs.match_access.Goals as goal

pub octets_in-group-requires : goal.octets_in-group-requires
octets_in-group-requires c = c.requires.slots.within 0 (omega arith)

pub octets_in-context-requires : goal.octets_in-context-requires
octets_in-context-requires c = c.requires.slots.within 1 (omega arith)

pub number_in-model-requires : goal.number_in-model-requires
number_in-model-requires c = c.requires.slots.within 2 (omega arith)

pub number_in-level-requires : goal.number_in-level-requires
number_in-level-requires c = c.requires.slots.within 3 (omega arith)

pub returns : goal.returns
returns c =
    told-access-match _ c.octets_in-group.ensures c.octets_in-context.ensures c.number_in-model.ensures c.number_in-level.ensures
    c.tell_access_match.ensures
