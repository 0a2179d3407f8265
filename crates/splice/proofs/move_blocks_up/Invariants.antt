-- `splice::move_blocks_up` meets its contract. The loop's invariant: the elements from `j` up to `end` are moved on by `by`, the rest is as
-- it was, and so is the length. A turn moves the block in front of `j`, which no store has reached. The measure is `j`. Assumes nothing.
use mathlib.Core.Path.{◌≡◌}
use Prim.Native.Nat.{◌+◌, ◌≤◌}
use lib.ListN.{length}
use Rattle.splice.specs.Moves.{moved}
use Rattle.splice.proofs.move_blocks_up.Given as goal

abbrev pub invariant-loop-j : goal.invariant-loop-j
invariant-loop-j l = (l.from ≤ l.j) × (l.j ≤ l.end) × (l.w ≡ moved l.initial.w l.j l.end (l.j + l.by)) × (length l.w ≡ length l.initial.w)

abbrev pub decreases-loop-j : goal.decreases-loop-j
decreases-loop-j l = l.j
