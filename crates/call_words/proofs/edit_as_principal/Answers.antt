-- `call_words::edit_as_principal` meets its contract: the caller and the edit are of what the slots hold. Assumes nothing.
use native.Mathlib.Omega.{arith}
use Rattle.calls.specs.Does.{edited, acts}
use Rattle.line_fields.specs.Slots.{slot_in}
use Rattle.call_words.proofs.Calls.{principal-as}
use Rattle.call_words.proofs.edit_as_principal.Goals as goal

pub number_in-requires : goal.number_in-requires
number_in-requires c = c.requires.within 0 (omega arith)

pub octets_in-requires : goal.octets_in-requires
octets_in-requires c = c.requires.within 1 (omega arith)

pub number_in-requires-2 : goal.number_in-requires-2
number_in-requires-2 c = c.requires.within 2 (omega arith)

pub octets_in-requires-2 : goal.octets_in-requires-2
octets_in-requires-2 c = c.requires.within 3 (omega arith)

pub returns : goal.returns
returns c =
    let s = slot_in c.args.slots 3 in
    record {
      reply = edited c.principal_edit-edited.result;
      does =
          acts
          (principal-as s.operation s.table c.number_in.ensures c.octets_in.ensures c.number_in-2.ensures c.octets_in-2.ensures
          c.principal_edit-edited.ensures);
      number_is = c.edited_number.ensures;
    }
