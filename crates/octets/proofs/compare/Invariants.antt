-- `octets::compare` meets its contract. The loop's invariant: the first `i` octets are the same. So the octets at `i` decide where they differ,
-- and at the end of the shorter list the lengths do. Assumes nothing.
use mathlib.Core.Path.{◌≡◌}
use lib.ListN.{take}
use Rattle.octets.proofs.compare.Given as goal

abbrev pub invariant-loop-i : goal.invariant-loop-i
invariant-loop-i l = take l.i l.a ≡ take l.i l.b
