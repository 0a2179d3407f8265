-- `walk_alike::skip_octets` meets its contract. The loop's invariant is what it ensures, of `i`: a turn that goes on has found four more the same (`Alikes`).
-- The measure is what is left of `n`. Assumes nothing.
use Prim.Native.Nat.{◌-◌, ◌≤◌}
use Rattle.walk_alike.specs.Alike.{Alike}
use Rattle.walk_alike.proofs.skip_octets.Given as goal

abbrev pub invariant-loop-i : goal.invariant-loop-i
invariant-loop-i l = (l.i ≤ l.n) × Alike l.i l.parts l.octets

abbrev pub decreases-loop-i : goal.decreases-loop-i
decreases-loop-i l = l.n - l.i
