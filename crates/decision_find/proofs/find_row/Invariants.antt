-- `decision_find::find_row` meets its contract. The loop's invariant: a walk over the rows of the table, which is sound (`SoundWalk`), so that the test may
-- be made of the next; and, of any definition that says what the test answers, a scan (`Scans`) for the first row that passes it, the first of
-- those that are left being the first of all. So the row that passes is the one, one that does not leaves it to the others, and there is
-- none when the loop ends. Assumes nothing.
use mathlib.Core.Path.{◌≡◌}
use mathlib.Core.Bool.{Bool}
use mathlib.Core.List.{List}
use Prim.Native.Nat.{ℕ, ◌+◌, ◌*◌}
use Rattle.std.specs.Borrow.{Bor}
use Rattle.rows.specs.declared.Table.{Table}
use Rattle.image_layout.specs.Layout.{rows_in}
use Rattle.image_judge.specs.Faults.{SoundTable}
use Rattle.image_judge.proofs.SoundWalks.{SoundWalk}
use Rattle.decision_find.specs.Found.{first_of}
use Rattle.decision_find.proofs.Scans.{Scan}
use Rattle.decision_find.proofs.find_row.Given as goal

abbrev pub invariant-loop-i : goal.invariant-loop-i
invariant-loop-i g l =
    ((t : Table) → SoundTable t l.w l.x → SoundWalk t l.w l.x l.i (l.x.lengths + 2 * l.i) l.o)
    × ((t : Table) (p : List ℕ → Bool) → SoundTable t l.w l.x → ((row : Bor (List ℕ)) (b : Bool) → goal.F-post g l.test row b → b ≡ p row.now)
    → Scan t l.w l.x (first_of (λ row. row) p) (first_of (λ row. row) p (rows_in l.w l.x)) l.i (l.x.lengths + 2 * l.i) l.o)
