-- `octets::skip` meets its contract. The loop begins at `from`, and its invariant is what is required there: `i` is at most `n`,
-- and the first `i` octets of both lists are the same. A turn that goes on has found eight octets more the same.
-- The measure is what is left of `n`. Assumes nothing.
use mathlib.Core.Path.{◌≡◌}
use Prim.Native.Nat.{◌≤◌, ◌-◌}
use lib.ListN.{take}
use Rattle.octets.proofs.skip.Given as goal

abbrev pub invariant-loop-i : goal.invariant-loop-i
invariant-loop-i l = (l.i ≤ l.n) × (take l.i l.a ≡ take l.i l.b)

abbrev pub decreases-loop-i : goal.decreases-loop-i
decreases-loop-i l = l.n - l.i
