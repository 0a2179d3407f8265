-- `splice::move_blocks_down` meets its contract. The loop's invariant: the elements from `from` up to `j` are moved back by `by`, the rest is
-- as it was, and so is the length. A turn moves the block at `j`, which no store has reached. The measure is what is left up to `end`.
-- Assumes nothing.
use mathlib.Core.Path.{◌≡◌}
use Prim.Native.Nat.{◌-◌, ◌≤◌}
use lib.ListN.{length}
use Rattle.splice.specs.Moves.{moved}
use Rattle.splice.proofs.move_blocks_down.Given as goal

abbrev pub invariant-loop-j : goal.invariant-loop-j
invariant-loop-j l = (l.from ≤ l.j) × (l.j ≤ l.end) × (l.w ≡ moved l.initial.w l.from l.j (l.from - l.by)) × (length l.w ≡ length l.initial.w)

abbrev pub decreases-loop-j : goal.decreases-loop-j
decreases-loop-j l = l.end - l.j
