-- `decision_views::is_in_view` meets its contract: a whole view row's name lies at 0 and its status at its end, and each test is one part of the
-- definition. Assumes nothing.
use mathlib.Core.Path.{refl, sym, ap, ◌∙◌}
use native.Mathlib.Omega.{arith}
use Rattle.decision_steps.specs.Decision.{in_view}
use Rattle.decision_steps.proofs.Layouts.{view-from}
use Rattle.decision_views.proofs.Membership.{another-name, by-status}
use Rattle.decision_views.proofs.is_in_view.Goals as goal

pub is_name-requires : goal.is_name-requires
is_name-requires c =
    (view-from _ _ refl c.requires).name

pub returns-then-not-is_name : goal.returns-then-not-is_name
returns-then-not-is_name c =
    another-name _ _ (sym c.is_name.ensures ∙ c.if-not-is_name.true)
    ∙ sym (ap (in_view _) (view-from _ _ refl c.requires).holds)

pub is_active-requires : goal.is_active-requires
is_active-requires c =
    omega (arith, (view-from _ _ refl c.requires).rest)

pub returns : goal.returns
returns c =
    c.is_active.ensures ∙ by-status _ _ (sym c.is_name.ensures ∙ c.if-not-is_name.false)
    ∙ sym (ap (in_view _) (view-from _ _ refl c.requires).holds)
