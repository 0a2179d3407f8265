-- `call_tells::decode` meets its contract: the identifier is what the slot holds. Assumes nothing.
use Rattle.call_tells.proofs.Tells.{told-decoded}
use Rattle.call_tells.proofs.decode.Goals as goal

pub returns : goal.returns
returns c = told-decoded c.identifier_in-oid.ensures c.tell_decoded.ensures
