-- `set_judge::weigh` meets its contract. The loop goes from the last edit to the first; its invariant: what has been weighed is the weight of the edits from
-- place i on. The measure is how many are left. Assumes nothing.
use mathlib.Core.Path.{◌≡◌}
use mathlib.Core.List.{[]}
use Prim.Native.Nat.{suc, ◌-◌, ◌≤◌}
use Rattle.set_rules.specs.Handed.{edits_from}
use Rattle.set_rules.specs.Made.{weight}
use Rattle.set_judge.proofs.weigh.Given as goal

abbrev pub invariant-loop-i : goal.invariant-loop-i
invariant-loop-i l = (l.i ≤ l.count) × (l.w ≡ weight l.t (suc l.i) (edits_from l.edits [] l.i (l.count - l.i)))

abbrev pub decreases-loop-i : goal.decreases-loop-i
decreases-loop-i l = l.i
