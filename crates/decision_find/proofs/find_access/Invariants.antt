-- `decision_find::find_access` meets its contract. The loop's invariant: a scan for the row of the greatest rank (`Best`), that row, or none, being
-- carried along with its rank. A row of a greater rank takes its place, any other leaves it, and when the loop ends it is the one to choose.
-- Assumes nothing.
use Prim.Native.Nat.{◌+◌, ◌*◌}
use Rattle.decision_steps.specs.Bytes.{rank_of}
use Rattle.decision_find.proofs.Best.{Best}
use Rattle.decision_find.proofs.find_access.Given as goal

abbrev pub invariant-loop-i : goal.invariant-loop-i
invariant-loop-i l = Best (rank_of l.group_name l.security_model l.security_level l.context_name) l.w l.x l.i (l.x.lengths + 2 * l.i) l.o l.best l.found
