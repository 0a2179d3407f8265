-- `walk_compare::past` meets its contract. The loop's invariant: the identifier goes on behind the front as what is left of it goes on behind what is left
-- of the front (`Comparing`). The measure is how many parts of the front are left. Assumes nothing.
use mathlib.Core.Path.{◌≡◌}
use Prim.Native.Nat.{◌-◌, ◌≤◌}
use lib.ListN.{length, drop}
use Rattle.walk_compare.specs.Onward.{onward}
use Rattle.walk_compare.proofs.past.Given as goal

abbrev pub invariant-loop-i : goal.invariant-loop-i
invariant-loop-i l = (l.n ≡ length l.front) × ((l.i ≤ length l.identifier) × (onward l.identifier l.front ≡ onward (drop l.i l.identifier) (drop l.i l.front)))

abbrev pub decreases-loop-i : goal.decreases-loop-i
decreases-loop-i l = l.n - l.i
