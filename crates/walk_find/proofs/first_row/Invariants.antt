-- `walk_find::first_row` meets its contract. The loop's invariant: a scan (`Scans` of crate `decision_find`) for the first row that may be read; the
-- first of those that are left is the first of all. The measure is how many rows are left. Assumes nothing.
use Prim.Native.Nat.{◌-◌}
use Rattle.image_layout.specs.Layout.{rows_in, extent}
use Rattle.decision_find.specs.Found.{first_of}
use Rattle.decision_find.proofs.Scans.{Scan}
use Rattle.decision_parts.specs.Parts.{rows_of}
use Rattle.edit_rules.specs.TableRows.{row_of}
use Rattle.walk_rows.specs.Reading.{readable_row}
use Rattle.walk_find.proofs.first_row.Given as goal

abbrev pub invariant-loop-i : goal.invariant-loop-i
invariant-loop-i l = let x = extent l.initial.g l.initial.o l.n in
    let first = first_of (row_of l.t) (readable_row l.t l.column (rows_of l.w l.v)) in
    Scan l.t l.w x first (first (rows_in l.w x)) l.i l.g l.o

abbrev pub decreases-loop-i : goal.decreases-loop-i
decreases-loop-i l = l.n - l.i
