-- `call_tells::encode` meets its contract: the column and the key are of what the slots hold. Assumes nothing.
use native.Mathlib.Omega.{arith}
use Rattle.line_fields.specs.Slots.{slot_in}
use Rattle.call_tells.proofs.Tells.{told-instance}
use Rattle.call_tells.proofs.encode.Goals as goal

pub number_in-column-requires : goal.number_in-column-requires
number_in-column-requires c = c.requires.slots.within 0 (omega arith)

pub octets_in-requires : goal.octets_in-requires
octets_in-requires c = c.requires.slots.within 1 (omega arith)

pub returns : goal.returns
returns c = told-instance (slot_in c.args.slots 1).table c.number_in-column.ensures c.octets_in.ensures c.tell_encoded.ensures
