-- `splice::move_up` meets its contract. The loop's invariant: besides the blocks, which begin at `j₀`, the elements from `j` up to there are
-- moved on by `by`, the rest is as the blocks left it, and so is the length. A turn takes the element in front of `j`, which no store has
-- reached, `by` places on. The measure is `j`. Assumes nothing.
use mathlib.Core.Path.{◌≡◌}
use Prim.Native.Nat.{◌+◌, ◌≤◌}
use lib.ListN.{length}
use Rattle.splice.specs.Moves.{moved}
use Rattle.splice.proofs.move_up.Given as goal

abbrev pub invariant-loop-j : goal.invariant-loop-j
invariant-loop-j l = (l.from ≤ l.j) × (l.j ≤ l.initial.j) × (l.w ≡ moved l.initial.w l.j l.initial.j (l.j + l.by)) × (length l.w ≡ length l.initial.w)

abbrev pub decreases-loop-j : goal.decreases-loop-j
decreases-loop-j l = l.j
