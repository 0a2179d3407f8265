-- `walk_compare::is_above` meets its contract. The loop's invariant: the parts stand to the index as what is left of them stands to what is left of it
-- (`Comparing`); so it is behind the parts that are the same in front. The measure is how many parts of the index are left. Assumes nothing.
use mathlib.Core.Path.{◌≡◌}
use Prim.Native.Nat.{◌+◌, ◌-◌, ◌*◌}
use lib.ListN.{length, drop}
use Rattle.numbers.specs.Order.{before}
use Rattle.instance_encode.specs.Runs.{runs}
use Rattle.walk_compare.proofs.is_above.Given as goal

abbrev pub invariant-loop-i : goal.invariant-loop-i
invariant-loop-i l = let index = runs l.from l.quads l.key in
    (l.n ≡ length index) × ((l.n + 3 * l.quads ≡ length l.key) × (before l.parts index ≡ before (drop l.i l.parts) (drop l.i index)))

abbrev pub decreases-loop-i : goal.decreases-loop-i
decreases-loop-i l = l.n - l.i
