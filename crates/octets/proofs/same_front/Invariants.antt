-- `octets::same_front` meets its contract. Lists that differ in an octet below `n` do not have the same first `n`.
-- The loop's invariant is what `skip` ensures: the first `i` octets are the same; at the end the first `n` are among them.
-- Assumes nothing.
use mathlib.Core.Path.{◌≡◌}
use lib.ListN.{take}
use Rattle.octets.proofs.same_front.Given as goal

abbrev pub invariant-loop-i : goal.invariant-loop-i
invariant-loop-i l = take l.i l.a ≡ take l.i l.b
