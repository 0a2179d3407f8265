-- `table_update::seek` meets its contract. The loop's invariant is the search's (`Seeks`), its measure how many rows lie between the two ends. How the row
-- in the middle stands to the key takes one of them there, or ends the search. Assumes nothing.
use Prim.Native.Nat.{◌-◌}
use Rattle.table_update.proofs.Seeks.{Search}
use Rattle.table_update.proofs.seek.Given as goal

abbrev pub invariant-loop-lo : goal.invariant-loop-lo
invariant-loop-lo l = Search l.w l.x l.key l.lo l.hi l.o

abbrev pub decreases-loop-lo : goal.decreases-loop-lo
decreases-loop-lo l = l.hi - l.lo
