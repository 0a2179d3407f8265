-- What a view lets be read: a variable, and the instance of a column of a row. Assumes nothing.
use Rattle.std.specs.Prelude.{Bool, List, ℕ}
use Rattle.rows.specs.declared.Table.{Table}
use Rattle.rows.specs.Rows.{ViewRow}
use Rattle.decision_steps.specs.Decision.{step5}
use Rattle.instance_encode.specs.Instances.{instance}
use Rattle.edit_rules.specs.TableRows.{RowOf, row_index}
use Rattle.walk_rules.specs.Walk.{is_allowed}

-- by the active rows of the view
unfoldable pub readable : List ViewRow → List ℕ → Bool
readable view variable = is_allowed (step5 variable view)

abbrev pub readable_row : (t : Table) → ℕ → List ViewRow → RowOf t → Bool
readable_row t column view r = readable view (instance t column (row_index t r))
