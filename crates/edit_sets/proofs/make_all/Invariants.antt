-- `edit_sets::make_all` meets its contract. The loop's invariant: the store is sound, and what makes the edits from place i on makes all of them from the
-- store as found. Assumes nothing.
use mathlib.Core.Path.{◌≡◌}
use mathlib.Core.Bool.{true}
use mathlib.Core.List.{List}
use Prim.Native.Nat.{ℕ, ◌-◌, ◌≤◌}
use lib.ListN.{length}
use Rattle.image.specs.Store.{is_sound}
use Rattle.set_rules.specs.Handed.{edits_from}
use Rattle.set_rules.specs.Made.{of_shape, Makes}
use Rattle.edit_sets.proofs.make_all.Given as goal

abbrev pub invariant-loop-i : goal.invariant-loop-i
invariant-loop-i l = (l.i ≤ l.count) × (length l.w ≡ length l.initial.w) × (is_sound l.w ≡ true)
    × ((after : List ℕ) → Makes (of_shape l.s (edits_from l.edits l.bytes l.i (l.count - l.i))) l.w after → Makes (of_shape l.s (edits_from l.edits l.bytes 0 l.count)) l.initial.w after)
