-- `call_tells::match_view` meets its contract: the view's name and the variable are of what the slots hold. Assumes nothing.
use native.Mathlib.Omega.{arith}
use Rattle.call_tells.proofs.Tells.{told-view-match}
use Rattle.call_tells.proofs.match_view.Goals as goal

pub octets_in-name-requires : goal.octets_in-name-requires
octets_in-name-requires c = c.requires.slots.within 0 (omega arith)

pub identifier_in-variable-requires : goal.identifier_in-variable-requires
identifier_in-variable-requires c = c.requires.slots.within 1 (omega arith)

pub returns : goal.returns
returns c = told-view-match _ c.octets_in-name.ensures c.identifier_in-variable.ensures c.tell_view_match.ensures
