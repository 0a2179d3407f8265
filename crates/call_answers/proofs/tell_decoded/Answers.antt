-- What was decoded is handed on as a column and a key without fault; a fault is told by its number. Assumes nothing.
use Rattle.call_answers.proofs.Instances.{Handed, decoded-handed, decoded-fault}
use Rattle.call_answers.proofs.tell_decoded.Goals as goal

pub slice_bounds-tell_instance-end : goal.slice_bounds-tell_instance-end
slice_bounds-tell_instance-end c =
    let handed : Handed c.args.oid.now c.decode-decoded.new.key c.in-Ok.i = decoded-handed c.args.oid.now _ c.decode-decoded.new.key c.decode-decoded.ensures c.in-Ok.is in
    (handed).key_room

pub tell_instance-requires : goal.tell_instance-requires
tell_instance-requires c =
    let handed : Handed c.args.oid.now c.decode-decoded.new.key c.in-Ok.i = decoded-handed c.args.oid.now _ c.decode-decoded.new.key c.decode-decoded.ensures c.in-Ok.is in
    record { legal = (handed).key_sound; room = c.requires }

pub returns-in-Ok : goal.returns-in-Ok
returns-in-Ok c =
    let handed : Handed c.args.oid.now c.decode-decoded.new.key c.in-Ok.i = decoded-handed c.args.oid.now _ c.decode-decoded.new.key c.decode-decoded.ensures c.in-Ok.is in
    rw (handed).text_is at c.tell_instance.ensures

pub returns-in-Err : goal.returns-in-Err
returns-in-Err c = rw (decoded-fault c.args.oid.now _ c.decode-decoded.new.key c.decode-decoded.ensures c.in-Err.is) at c.tell_fault.ensures
