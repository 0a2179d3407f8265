-- `octets::skip_long` meets its contract. The loop's invariant: `i` is at most `n`, and the first `i` octets of both lists are the same.
-- A turn that goes on has found four times eight octets the same, so the fronts are the same 32 further; a turn that
-- stops answers `i` as it is. The measure is what is left of `n`. Assumes nothing.
use mathlib.Core.Path.{◌≡◌}
use Prim.Native.Nat.{◌≤◌, ◌-◌}
use lib.ListN.{take}
use Rattle.octets.proofs.skip_long.Given as goal

abbrev pub invariant-loop-i : goal.invariant-loop-i
invariant-loop-i l = (l.i ≤ l.n) × (take l.i l.a ≡ take l.i l.b)

abbrev pub decreases-loop-i : goal.decreases-loop-i
decreases-loop-i l = l.n - l.i
