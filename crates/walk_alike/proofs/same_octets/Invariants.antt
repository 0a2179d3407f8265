-- `walk_alike::same_octets` meets its contract. The loop's invariant is what it ensures, of `i`: a turn that goes on has found one more the same (`Alikes`).
-- The measure is what is left of the shorter list. Assumes nothing.
use Prim.Native.Nat.{◌-◌, ◌≤◌}
use lib.ListN.{length}
use Rattle.walk_alike.specs.Alike.{Alike}
use Rattle.walk_alike.proofs.same_octets.Given as goal

abbrev pub invariant-loop-i : goal.invariant-loop-i
invariant-loop-i l = (l.n ≤ length l.octets) × ((l.n ≤ length l.parts) × Alike l.i l.parts l.octets)

abbrev pub decreases-loop-i : goal.decreases-loop-i
decreases-loop-i l = l.n - l.i
