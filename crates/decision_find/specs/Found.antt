-- A row found where it lies in the bytes of an image. Assumes nothing.
use Rattle.std.specs.Prelude.{◌≡◌, Bool, List, map, ℕ, ◌-◌, ◌≤◌, ltb, length, take, drop}
use Rattle.std.proofs.Math.Option
use Rattle.std.proofs.Math.Option.{Option, none, some}
use Rattle.std.specs.Prelude.{Some, None}
use Rattle.std.specs.Borrow.{Bor}
use Rattle.numbers.specs.Lists.{any, find, keep, OnSome}
use Rattle.rows.specs.declared.Table.{Table}
use Rattle.rows.specs.declared.Table.TheVariants.{View}
use Rattle.rows.specs.Rows.{ViewRow, view_of}
use Rattle.image_layout.specs.declared.Extent.{Extent}
use Rattle.image_layout.specs.Layout.{rows_in, end_of}
use Rattle.image_judge.specs.Faults.{SoundTable}
use Rattle.decision_steps.specs.Decision.{in_view}
use Rattle.decision_steps.specs.Bytes.{Whole}
use Rattle.decision_find.specs.Types.{Found}
use Rattle.decision_find.specs.declared.ViewRows.{ViewRows}

-- the bytes of the row found
abbrev pub bytes_at : List ℕ → Found → Option (List ℕ)
bytes_at w (Some (at, end)) = some (take (end - at) (drop at w))
bytes_at w None = none

-- it lies within w
pub record Lies (w : List ℕ) (at end : ℕ) : Type 0 where
  pub starts : at ≤ end
  pub ends : end ≤ length w

abbrev pub FoundIn : List ℕ → Found → Type 0
FoundIn w (Some (at, end)) = Lies w at end
FoundIn w None = Unit {0}

-- a row of table t, read by `of`, that was chosen, or that none was: nothing is wrong with its bytes
pub record Chosen {R : Type 0} (t : Table) (of : List ℕ → R) (w : List ℕ) (found : Found) (choice : Option R) : Type 0 where
  pub lies : FoundIn w found
  pub whole : OnSome (Whole t) (bytes_at w found)
  pub is : Option.map of (bytes_at w found) ≡ choice

-- the first of the rows, read by `of`, that passes the test
abbrev pub first_of : {R : Type 0} → (List ℕ → R) → (R → Bool) → List (List ℕ) → Option R
first_of of p rows = find p (map of rows)

-- ---- the first row that passes a test of bytes that is a piece of code

-- the test may be made of each whole row of a sound table
pub record Testable (may : Bor (List ℕ) → Type 0) (w : List ℕ) (x : Extent) : Type 0 where
  pub table : Table
  pub sound : SoundTable table w x
  pub each : (row : Bor (List ℕ)) → Whole table row.now → may row

-- what is found, where the test answers as a definition does
pub record FirstRow (answers : Bor (List ℕ) → Bool → Type 0) (w : List ℕ) (x : Extent) (found : Found) : Type 0 where
  pub is : (t : Table) (p : List ℕ → Bool) → SoundTable t w x → ((row : Bor (List ℕ)) (b : Bool) → answers row b → b ≡ p row.now)
      → Chosen t (λ row. row) w found (first_of (λ row. row) p (rows_in w x))

-- ---- a view

-- the rows of the view of a name, among those of an extent
abbrev pub rows_of_view : List ℕ → List ℕ → Extent → List ViewRow
rows_of_view name w x = keep (in_view name) (map view_of (rows_in w x))

-- rows of a view table, nothing wrong with them, and their end
pub record RowsTo (w : List ℕ) (v : ViewRows) : Type 0 where
  pub sound : SoundTable View w v.rows
  pub ends : v.end ≡ end_of w v.rows

-- they hold all rows of the view, and there are any where the view has any
pub record ToLast (name w : List ℕ) (x : Extent) (v : ViewRows) : Type 0 where
  pub lies : RowsTo w v
  pub kept : rows_of_view name w v.rows ≡ rows_of_view name w x
  pub some : any (in_view name) (map view_of (rows_in w x)) ≡ ltb 0 v.rows.count
