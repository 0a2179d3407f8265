-- `instance_encode::quads_of` meets its contract: the bytes that an arm asks for are there, since the key has no fault (`Keys`). Assumes nothing.
use native.Mathlib.Omega.{arith}
use Rattle.instance_encode.proofs.Keys.{access-room, view-room}
use Rattle.instance_encode.proofs.quads_of.Goals as goal

pub overflow_sub-result : goal.overflow_sub-result
overflow_sub-result c = access-room c.args.key.now (rw c.in-Access.is at c.requires)

pub bounds-key-0 : goal.bounds-key-0
bounds-key-0 c = omega (arith, view-room c.args.key.now (rw c.in-View.is at c.requires))

pub bounds-key-n : goal.bounds-key-n
bounds-key-n c = omega (arith, view-room c.args.key.now (rw c.in-View.is at c.requires))
