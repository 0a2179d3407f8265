-- `set_judge::comes_again` meets its contract. The loop's invariant: whether one of the edits from place i on begins so is whether one of all does. Assumes nothing.
use mathlib.Core.Path.{◌≡◌}
use Prim.Native.Nat.{◌-◌, ◌≤◌}
use Rattle.numbers.specs.Lists.{any}
use Rattle.set_rules.specs.Handed.{edits_from}
use Rattle.set_rules.specs.Made.{begins}
use Rattle.set_judge.proofs.comes_again.Given as goal

abbrev pub invariant-loop-i : goal.invariant-loop-i
invariant-loop-i l = (l.i ≤ l.count) × (any (begins l.t l.key) (edits_from l.edits l.bytes l.i (l.count - l.i)) ≡ any (begins l.t l.key) (edits_from l.edits l.bytes l.from (l.count - l.from)))
