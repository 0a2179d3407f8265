-- Whether a view row is in the view of a name, by the tests that the code makes of it. Assumes nothing.
use mathlib.Core.Path.{◌≡◌, refl, sym}
use mathlib.Core.Bool.{Bool, true, false, ◌&&◌}
use mathlib.Core.List.{List}
use Prim.Native.Nat.{ℕ}
use Rattle.numbers.specs.Order.{same}
use Rattle.rows.specs.Rows.{ViewRow}
use Rattle.decision_steps.specs.Decision.{is_active, in_view}

-- a second test that holds
pub and-holds : (a b : Bool) → b ≡ true → a ≡ a && b
and-holds true b e = sym e
and-holds false b e = refl

module _ (name : List ℕ) (r : ViewRow) where
  pub another-name : same r.view_name name ≡ false → false ≡ in_view name r
  unfolding in_view
  another-name h = rw h

  pub by-status : same r.view_name name ≡ true → is_active r.status ≡ in_view name r
  unfolding in_view
  by-status h = rw h
