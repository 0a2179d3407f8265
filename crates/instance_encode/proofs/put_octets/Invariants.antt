-- `instance_encode::put_octets` meets its contract. The loop's invariant: the buffer is filled with the bytes passed (`Filled`), so at the end
-- with all. Assumes nothing.
use Rattle.instance_encode.proofs.Filled.{FilledFrom}
use Rattle.instance_encode.proofs.put_octets.Given as goal

abbrev pub invariant-loop-i : goal.invariant-loop-i
invariant-loop-i l = FilledFrom l.at l.bytes l.initial.out l.out l.i
