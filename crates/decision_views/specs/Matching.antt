-- A view row that is in the view of a name and that a variable matches. Assumes nothing.
use Rattle.std.specs.Prelude.{Bool, ◌&&◌, List, ℕ}
use Rattle.rows.specs.Rows.{ViewRow}
use Rattle.decision_steps.specs.Decision.{in_view, matches}

abbrev pub matching : List ℕ → List ℕ → ViewRow → Bool
matching name variable r = in_view name r && matches variable r
