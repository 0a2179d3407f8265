-- `instance_encode::put_numbers` meets its contract. The loop's invariant: the buffer is filled with the numbers passed (`Filled`).
-- Assumes nothing.
use Rattle.numbers.specs.BigEndian.{quad, numbers}
use Rattle.instance_encode.proofs.Filled.{FilledFrom}
use Rattle.instance_encode.proofs.put_numbers.Given as goal

abbrev pub invariant-loop-i : goal.invariant-loop-i
invariant-loop-i l = FilledFrom l.at (numbers quad l.n l.bytes) l.initial.out l.out l.i
