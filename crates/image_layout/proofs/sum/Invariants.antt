-- `image_layout::sum` meets its contract. The loop's invariant: `s` with the sum of the numbers that are left is the whole sum, which no sum
-- on the way is above. Assumes nothing.
use mathlib.Core.Path.{◌≡◌}
use Prim.Native.Nat.{◌+◌}
use lib.ListN.{drop}
use Rattle.image_layout.specs.Layout.{pairs, total}
use Rattle.image_layout.proofs.sum.Given as goal

abbrev pub invariant-loop-i : goal.invariant-loop-i
invariant-loop-i l = l.s + total (drop l.i (pairs l.n (drop l.at l.w))) ≡ total (pairs l.n (drop l.at l.w))
