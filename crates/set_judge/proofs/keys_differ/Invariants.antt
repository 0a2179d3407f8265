-- `set_judge::keys_differ` meets its contract. The loop's invariant: whether the keys from place i on differ is whether all do. Assumes nothing.
use mathlib.Core.Path.{◌≡◌}
use Prim.Native.Nat.{◌-◌, ◌≤◌}
use Rattle.set_rules.specs.Sets.{keys_differ}
use Rattle.set_rules.specs.Handed.{edits_from}
use Rattle.set_judge.proofs.keys_differ.Given as goal

abbrev pub invariant-loop-i : goal.invariant-loop-i
invariant-loop-i l = (l.i ≤ l.count) × (keys_differ (edits_from l.edits l.bytes l.i (l.count - l.i)) ≡ keys_differ (edits_from l.edits l.bytes 0 l.count))
