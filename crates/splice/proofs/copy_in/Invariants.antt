-- `splice::copy_in` meets its contract. The loop's invariant: the first `i` octets of `new` stand in the list from `at` on, the rest is as it was, and so
-- is the length. A turn stores one more. Assumes nothing.
use mathlib.Core.Path.{◌≡◌}
use lib.ListN.{length}
use lib.Seq.{paste}
use Rattle.splice.proofs.copy_in.Given as goal

abbrev pub invariant-loop-i : goal.invariant-loop-i
invariant-loop-i l = (l.w ≡ paste l.initial.w l.at l.new l.i) × (length l.w ≡ length l.initial.w)
