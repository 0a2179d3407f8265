-- `splice::move_down` meets its contract. The loop's invariant: besides the blocks, which end at `j₀`, the elements from there up to `j` are
-- moved back by `by`, the rest is as the blocks left it, and so is the length. A turn takes the element at `j`, which no store has reached,
-- `by` places back. The measure is what is left up to `end`. Assumes nothing.
use mathlib.Core.Path.{◌≡◌}
use Prim.Native.Nat.{◌-◌, ◌≤◌}
use lib.ListN.{length}
use Rattle.splice.specs.Moves.{moved}
use Rattle.splice.proofs.move_down.Given as goal

abbrev pub invariant-loop-j : goal.invariant-loop-j
invariant-loop-j l = (l.initial.j ≤ l.j) × (l.j ≤ l.end) × (l.w ≡ moved l.initial.w l.initial.j l.j (l.initial.j - l.by)) × (length l.w ≡ length l.initial.w)

abbrev pub decreases-loop-j : goal.decreases-loop-j
decreases-loop-j l = l.end - l.j
