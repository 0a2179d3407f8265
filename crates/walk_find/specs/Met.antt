-- How the code walks the instances: table by table, in each table column by column, in each column row by row; and the row that it meets, where it lies
-- in the bytes of an image. Assumes nothing.
use Rattle.std.specs.Prelude.{◌≡◌, Bool, true, ◌&&◌, List, map, ℕ, ◌≤◌, length, drop}
use Rattle.std.proofs.Math.Option.{Option, none, some}
use Rattle.std.specs.Prelude.{Some, None}
use Rattle.numbers.specs.Lists.{find}
use Rattle.numbers.specs.Order.{before}
use Rattle.rows.specs.declared.Table.{Table}
use Rattle.rows.specs.Rows.{ViewRow}
use Rattle.image_layout.specs.declared.Extent.{Extent}
use Rattle.image_layout.specs.Layout.{rows_in}
use Rattle.decision_steps.specs.Bytes.{Whole}
use Rattle.decision_find.specs.Found.{Lies}
use Rattle.decision_parts.specs.Parts.{part}
use Rattle.instance_encode.specs.Instances.{base, columns, lists}
use Rattle.edit_rules.specs.TableRows.{RowOf, row_of, row_index}
use Rattle.walk_rules.specs.Walk.{Instance, instance_of, of_columns}
use Rattle.walk_compare.specs.Onward.{onward}
use Rattle.walk_rows.specs.Reading.{readable, readable_row}
use Rattle.walk_find.specs.Types.{Met}

-- ---- the instance at which a walk stops

-- by its row: the index passes a test, and the view lets the instance be read
unfoldable pub passing : (t : Table) → ℕ → List ViewRow → (List ℕ → Bool) → RowOf t → Bool
passing t column view above r = above (row_index t r) && readable_row t column view r

-- it is above the identifier, and the view lets it be read
unfoldable pub stops : List ViewRow → List ℕ → Instance → Bool
stops view identifier i = before identifier i.identifier && readable view i.identifier

-- the first such of a table
abbrev pub first_in : (t : Table) → List ViewRow → List ℕ → List ℕ → Extent → Option Instance
first_in t view identifier w x = find (stops view identifier) (of_columns t (map (row_of t) (rows_in w x)) (columns t))

-- what an identifier has left behind the base of a table
pub record LeftAt (t : Table) (identifier : List ℕ) (k : ℕ) : Type 0 where
  pub place : k ≤ length identifier
  pub is : onward identifier (base t) ≡ some (drop k identifier)

-- ---- met, where it lies

abbrev pub instance_at : List ℕ → Met → Option Instance
instance_at w (Some (t, column, at, end)) = some (instance_of t column (row_of t (part w at end)))
instance_at w None = none

pub record RowMet (w : List ℕ) (t : Table) (column at end : ℕ) : Type 0 where
  pub lies : Lies w at end
  pub whole : Whole t (part w at end)
  pub listed : lists t column ≡ true

abbrev pub MetIn : List ℕ → Met → Type 0
MetIn w (Some (t, column, at, end)) = RowMet w t column at end
MetIn w None = Unit {0}

pub record Meets (w : List ℕ) (r : Met) (choice : Option Instance) : Type 0 where
  pub row : MetIn w r
  pub is : instance_at w r ≡ choice
