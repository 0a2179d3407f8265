-- `decision_find::find_view_row` meets its contract. The loop's invariant, of the extent where it began: a walk from the end, and `Carried` of the rows
-- passed, the row carried being none (`Passing`). A row that does not match leaves it so; one that does is carried, and stays when the rows in front are
-- passed. The measure is how many rows are left. Assumes nothing.
use mathlib.Core.Path.{◌≡◌}
use Prim.Native.Nat.{◌+◌, ◌*◌}
use Rattle.rows.specs.declared.Table.TheVariants.{View}
use Rattle.image_layout.specs.declared.Extent.{Extent}
use Rattle.image_layout.specs.Layout.{end_of}
use Rattle.image_judge.specs.Faults.{SoundTable}
use Rattle.decision_steps.specs.Bytes.{identifier}
use Rattle.decision_find.proofs.OnePass.{Passing}
use Rattle.decision_find.proofs.find_view_row.Given as goal

abbrev pub invariant-loop-i : goal.invariant-loop-i
invariant-loop-i l = (x : Extent) → x.count ≡ l.initial.i → x.lengths + 2 * x.count ≡ l.initial.g → l.initial.e ≡ end_of l.w x → SoundTable View l.w x → Passing l.view_name (identifier l.variable) l.w x l.i l.g l.e

abbrev pub decreases-loop-i : goal.decreases-loop-i
decreases-loop-i l = l.i
