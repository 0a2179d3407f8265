-- `decision_views::family_type` meets its contract: behind a view row's type come the storage type and the status, an octet each. Assumes nothing.
use mathlib.Core.Path.{refl, sym, ap}
use native.Mathlib.Omega.{arith}
use Rattle.decision_steps.proofs.Layouts.{view-from}
use Rattle.decision_views.proofs.family_type.Goals as goal

pub overflow_sub-at : goal.overflow_sub-at
overflow_sub-at c = omega (arith, (view-from _ _ refl c.requires).rest)

pub bounds-row-at : goal.bounds-row-at
bounds-row-at c = omega (arith, (view-from _ _ refl c.requires).rest)

pub returns : goal.returns
returns c = sym (ap (λ r. r.family_type) (view-from _ _ refl c.requires).holds)
