-- Step 5 in one pass (docs/changes/02-view-matching.md): the rows of the view table are passed from the last to the first, and one row is carried along.
-- After any number of rows, the row carried is step 5's choice among the view's rows passed, or none if none of them matches (`Carried`): so it is
-- before the first row (`start`) and after each (`step`). A row carried stays, whatever rows are passed in front of it (`stays`), so that the pass may
-- end there. When all rows are passed this is what `find_view_row` promises. Proved in proofs/OnePass.antt. Assumes nothing.
use Rattle.std.specs.Prelude.{◌≡◌, Bool, cond, List, ◌∷◌, map, ℕ, ◌-◌, ◌≤◌, ◌<◌, take, drop}
use Rattle.std.specs.Prelude.{Some, None}
use Rattle.numbers.specs.Lists.{keep}
use Rattle.rows.specs.declared.Table.TheVariants.{View}
use Rattle.rows.specs.Rows.{ViewRow, view_of}
use Rattle.image_layout.specs.declared.Extent.{Extent}
use Rattle.image_layout.specs.Layout.{rows_in}
use Rattle.image_judge.specs.Faults.{SoundTable}
use Rattle.decision_steps.specs.Decision.{in_view, chosen_view}
use Rattle.decision_views.specs.Matching.{matching}
use Rattle.decision_find.specs.Types.{Found}
use Rattle.decision_find.specs.Found.{Lies, Chosen}

-- the view's rows among those passed, where i rows are left in front
abbrev pub passed : (name w : List ℕ) → Extent → ℕ → List ViewRow
passed name w x i = keep (in_view name) (map view_of (drop i (rows_in w x)))

-- the row carried is step 5's choice among them, or none if none of them matches
pub record Carried (name variable w : List ℕ) (x : Extent) (i : ℕ) (found : Found) : Type 0 where
  pub is : Chosen View view_of w found (chosen_view variable (passed name w x i))

-- of i rows left in front, the last lies from `at` to `end`
pub record NextRow (w : List ℕ) (x : Extent) (i at end : ℕ) : Type 0 where
  pub some : 0 < i
  pub lies : Lies w at end
  pub is : drop (i - 1) (rows_in w x) ≡ take (end - at) (drop at w) ∷ drop i (rows_in w x)

-- what is carried when a row is passed: the row carried before, or else that row if it fits
abbrev pub carry : Found → Bool → Found → Found
carry (Some (at, end)) fits next = Some (at, end)
carry None fits next = cond fits next None

pub record OnePass (name variable w : List ℕ) (x : Extent) : Type 0 where
  pub start : Carried name variable w x x.count None
  pub step : (i at end : ℕ) (found : Found) → NextRow w x i at end → Carried name variable w x i found
      → Carried name variable w x (i - 1) (carry found (matching name variable (view_of (take (end - at) (drop at w)))) (Some (at, end)))
  pub stays : (i j at end : ℕ) → j ≤ i → Carried name variable w x i (Some (at, end)) → Carried name variable w x j (Some (at, end))

abbrev pub InOnePass : Type 0
InOnePass = (name variable w : List ℕ) (x : Extent) → SoundTable View w x → OnePass name variable w x
