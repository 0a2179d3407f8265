-- The rows behind P1 to P4 and P9: the choices compute. Assumes nothing.
use mathlib.Core.Path.{refl}
use Rattle.numbers.specs.Order.{same, before, begins}
use Rattle.decision_steps.specs.Decision.{context_fits, candidate, chosen_access, in_view, mask_bit, agrees, matches, chosen_view}
use Rattle.decision_match.specs.Matches.{view_choice, access_choice}
use Rattle.ridge.specs.Matches.{RidgeMatches}

pub ridge-matches : RidgeMatches
unfolding view_choice access_choice context_fits candidate chosen_access in_view mask_bit agrees matches chosen_view same before begins
ridge-matches = record {
  p1_access = refl;
  p4_access = refl;
  p9_access = refl;
  p1_view = refl;
  p2_view = refl;
  p3_view = refl;
  p4_view = refl;
}
