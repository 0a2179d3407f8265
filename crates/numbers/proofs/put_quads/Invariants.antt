-- `put_quads` meets its contract. The loop's invariant: `out` is filled with the bytes of the parts passed (`Filled` of lists), four for each.
-- Assumes nothing.
use Prim.Native.Nat.{◌*◌}
use Rattle.numbers.specs.BigEndian.{quad, bytes_of}
use Rattle.numbers.proofs.Laid.{Filled}
use Rattle.numbers.proofs.put_quads.Given as goal

abbrev pub invariant-loop-i : goal.invariant-loop-i
invariant-loop-i l = Filled (bytes_of quad l.parts) l.initial.out l.out (l.i * 4)
