-- `walk_find::in_columns` meets its contract. The loop's invariant: the first instance in the columns that are left is the first of the table, and they are
-- listed. A row found in the next column is the first; where there is none, the others are left. The measure is how many columns are left.
-- Assumes nothing.
use mathlib.Core.Path.{◌≡◌}
use mathlib.Core.Bool.{true}
use mathlib.Core.List.{map}
use Prim.Native.Nat.{◌+◌, ◌≤◌}
use lib.ListN.{length}
use Rattle.numbers.specs.Lists.{every, find}
use Rattle.image_layout.specs.Layout.{rows_in}
use Rattle.decision_parts.specs.Parts.{rows_of}
use Rattle.instance_encode.specs.Instances.{counted, lists}
use Rattle.edit_rules.specs.TableRows.{row_of}
use Rattle.walk_rules.specs.Walk.{of_columns}
use Rattle.walk_find.specs.Met.{stops, first_in}
use Rattle.walk_find.proofs.in_columns.Given as goal

abbrev pub invariant-loop-left : goal.invariant-loop-left
invariant-loop-left l = (l.end ≡ length l.identifier) × ((l.column + l.left ≤ 10) × ((every (lists l.t) (counted l.column l.left) ≡ true)
    × (find (stops (rows_of l.w l.v) l.identifier) (of_columns l.t (map (row_of l.t) (rows_in l.w l.x)) (counted l.column l.left)) ≡ first_in l.t (rows_of l.w l.v) l.identifier l.w l.x)))

abbrev pub decreases-loop-left : goal.decreases-loop-left
decreases-loop-left l = l.left
