-- `call_words::edit_as_owner` meets its contract: the edit is of what the slot holds. Assumes nothing.
use native.Mathlib.Omega.{arith}
use Rattle.calls.specs.Does.{edited, owns}
use Rattle.line_fields.specs.Slots.{slot_in}
use Rattle.call_words.proofs.Calls.{owner-as}
use Rattle.call_words.proofs.edit_as_owner.Goals as goal

pub octets_in-requires : goal.octets_in-requires
octets_in-requires c = c.requires.within 0 (omega arith)

pub returns : goal.returns
returns c =
    let s = slot_in c.args.slots 0 in
    record {
      reply = edited c.owner_edit-edited.result;
      does = owns (owner-as s.operation s.table c.octets_in.ensures c.owner_edit-edited.ensures);
      number_is = c.edited_number.ensures;
    }
