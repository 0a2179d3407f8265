-- The rows behind P1 to P4 and P9, as the calls of ticket 4 hand them back on the Ridge tables; proved in proofs/Matches.antt. Assumes nothing.
use Rattle.std.specs.Prelude.{◌≡◌, [], ◌∷◌}
use Rattle.std.proofs.Math.Option.{none, some}
use Rattle.decision_match.specs.Matches.{chosen, view_choice, access_choice}
use Rattle.ridge.specs.Ridge.{ridge_tables, leads, train, ridge1, all, base, row_a, row_b, row_all, row_included, row_excluded}
use Rattle.ridge.specs.Examples.{below}

pub record RidgeMatches : Type 0 where
  -- step 3 for "leads" in "ridge1" at level 3, and at level 1; for "train"
  pub p1_access : access_choice (some ridge_tables) leads ridge1 3 3 ≡ chosen (some row_b)
  pub p4_access : access_choice (some ridge_tables) leads ridge1 3 1 ≡ chosen (some row_a)
  pub p9_access : access_choice (some ridge_tables) train ridge1 3 3 ≡ chosen none
  -- step 5 in "base", and in "all"
  pub p1_view : view_choice (some ridge_tables) base (below (8 ∷ 2 ∷ [])) ≡ chosen (some row_included)
  pub p2_view : view_choice (some ridge_tables) base (below (8 ∷ 3 ∷ [])) ≡ chosen none
  pub p3_view : view_choice (some ridge_tables) base (below (7 ∷ 2 ∷ [])) ≡ chosen (some row_excluded)
  pub p4_view : view_choice (some ridge_tables) all (below (7 ∷ 2 ∷ [])) ≡ chosen (some row_all)
