-- `octets::ascends` meets its contract. `n` is the shorter length. The loop's invariant is what `skip` ensures: `j` is at most `n`, and the
-- first `j` octets are the same; four more are looked at as numbers. So the octets at `j` decide where they differ, and at the end the lengths
-- do. Assumes nothing.
use mathlib.Core.Path.{◌≡◌}
use Prim.Native.Nat.{◌≤◌}
use lib.ListN.{take}
use Rattle.octets.proofs.ascends.Given as goal

abbrev pub invariant-loop-j : goal.invariant-loop-j
invariant-loop-j l = (l.j ≤ l.n) × (take l.j l.a ≡ take l.j l.b)
