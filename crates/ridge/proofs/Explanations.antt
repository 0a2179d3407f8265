-- P1 to P9 explained: the explanations compute. Assumes nothing.
use mathlib.Core.Path.{refl}
use Rattle.numbers.specs.Order.{same, before, begins}
use Rattle.decision_steps.specs.Request.{legal_request}
use Rattle.decision_steps.specs.Decision.{bears_context, maps_principal, context_fits, candidate, chosen_access, view_for, in_view, mask_bit, agrees, matches}
use Rattle.decision_steps.specs.Decision.{chosen_view, decision, mapping_row, access_row}
use Rattle.explain_rules.specs.Explanation.{view_picked, explained}
use Rattle.ridge.specs.Explanations.{RidgeExplained}

pub ridge-explained : RidgeExplained
unfolding explained view_picked mapping_row access_row decision legal_request bears_context maps_principal context_fits candidate chosen_access view_for in_view mask_bit
    agrees matches chosen_view same before begins
ridge-explained = record { p1 = refl; p2 = refl; p3 = refl; p4 = refl; p5 = refl; p6 = refl; p7 = refl; p8 = refl; p9 = refl }
