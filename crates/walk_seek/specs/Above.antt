-- The rows of a table whose index is above an identifier's parts. Assumes nothing.
use Rattle.std.specs.Prelude.{◌≡◌, List, map, ℕ}
use Rattle.numbers.specs.Lists.{keep}
use Rattle.numbers.specs.Order.{before}
use Rattle.rows.specs.declared.Table.{Table}
use Rattle.image_layout.specs.declared.Extent.{Extent}
use Rattle.image_layout.specs.Layout.{rows_in}
use Rattle.image_judge.specs.Faults.{SoundTable}
use Rattle.edit_rules.specs.TableRows.{row_of, row_index}

-- they lie together, nothing wrong with them
pub record Above (t : Table) (w : List ℕ) (x : Extent) (parts : List ℕ) (y : Extent) : Type 0 where
  pub sound : SoundTable t w y
  pub are : map (row_of t) (rows_in w y) ≡ keep (λ r. before parts (row_index t r)) (map (row_of t) (rows_in w x))
