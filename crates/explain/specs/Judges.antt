-- Step 5 with its row, by what steps 1 to 4 came to. Assumes nothing.
use Rattle.std.specs.Prelude.{◌≡◌, List, ℕ}
use Rattle.std.proofs.Math.Option.{Option, none}
use Rattle.rows.specs.declared.Table.TheVariants.{View}
use Rattle.rows.specs.Rows.{ViewRow, view_of}
use Rattle.decision_steps.specs.Decision.{chosen_view, Authority, denied, viewed, by_authority}
use Rattle.decision_find.specs.Found.{Chosen}
use Rattle.explain.specs.declared.Judged.{Judged}

-- the view row that decides on a variable, none where the steps do not get there
abbrev pub row_by : List ℕ → Authority → Option ViewRow
row_by variable (denied cause) = none
row_by variable (viewed rs) = chosen_view variable rs

pub record Judges (w variable : List ℕ) (a : Authority) (r : Judged) : Type 0 where
  pub view_is : Chosen View view_of w r.view (row_by variable a)
  pub decision_is : r.decision ≡ by_authority variable a
