-- `walk_alike::same_quads` meets its contract. The loop's invariant is what it ensures, of `i`: a turn that goes on has found one more the same (`Alikes`).
-- The measure is what is left of the shorter list. Assumes nothing.
use Prim.Native.Nat.{◌-◌, ◌≤◌}
use lib.ListN.{length}
use Rattle.numbers.specs.BigEndian.{quad, numbers}
use Rattle.walk_alike.specs.Alike.{Alike}
use Rattle.walk_alike.proofs.same_quads.Given as goal

abbrev pub invariant-loop-i : goal.invariant-loop-i
invariant-loop-i l = (l.n ≤ l.count) × ((l.n ≤ length l.parts) × Alike l.i l.parts (numbers quad l.count l.bytes))

abbrev pub decreases-loop-i : goal.decreases-loop-i
decreases-loop-i l = l.n - l.i
