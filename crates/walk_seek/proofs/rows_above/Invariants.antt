-- `walk_seek::rows_above` meets its contract. The loop's invariant is the bisection's (`Seek`), its measure how many rows lie between the two ends. Assumes
-- nothing.
use Prim.Native.Nat.{◌-◌}
use Rattle.walk_seek.proofs.Seeks.{Seek}
use Rattle.walk_seek.proofs.rows_above.Given as goal

abbrev pub invariant-loop-lo : goal.invariant-loop-lo
invariant-loop-lo l = Seek l.t l.w l.x l.parts l.lo l.hi l.o

abbrev pub decreases-loop-lo : goal.decreases-loop-lo
decreases-loop-lo l = l.hi - l.lo
