-- `decision_views::is_below` meets its contract. A last part that differs where its bit is 1 disagrees (`agrees-part`); otherwise it is met again
-- in the loop. The loop's invariant speaks of what is left: the subtree agrees with the variable as what is left of the two from 4 * `i` on
-- does from bit `i` on. It holds of the bytes that `skip` found the same; a turn passes one number; at the end nothing is left. Assumes nothing.
use mathlib.Core.Path.{◌≡◌}
use Prim.Native.Nat.{◌*◌}
use lib.ListN.{drop}
use Rattle.decision_steps.specs.Decision.{agrees}
use Rattle.decision_steps.specs.Bytes.{identifier}
use Rattle.decision_views.proofs.is_below.Given as goal

abbrev pub invariant-loop-i : goal.invariant-loop-i
invariant-loop-i l = agrees l.mask 0 (identifier l.subtree) (identifier l.variable) ≡ agrees l.mask l.i (identifier (drop (4 * l.i) l.subtree)) (identifier (drop (4 * l.i) l.variable))
