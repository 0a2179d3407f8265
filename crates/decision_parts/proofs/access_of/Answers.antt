-- `decision_parts::access_of` meets its contract: the octets behind the length byte are the group's name (`group_at`), and the row found for that group is
-- the one to choose (`find_access`). Assumes nothing.
use mathlib.Core.Path.{ap, ◌∙◌}
use mathlib.Core.List.{map}
use Rattle.rows.specs.Rows.{access_of}
use Rattle.image_layout.specs.Layout.{rows_in}
use Rattle.decision_steps.specs.Decision.{chosen_access}
use Rattle.decision_steps.proofs.Layouts.{name-part}
use Rattle.decision_find.proofs.Chosen.{chosen-as}
use Rattle.decision_parts.proofs.access_of.Goals as goal

pub returns : goal.returns
returns c =
    let a = c.args in
    let e = name-part a.row.now c.group_at-at.result c.after-end.result c.after-end.ensures.is ∙ c.group_at-at.ensures.is in
    chosen-as c.find_access.ensures
    (ap (λ g. chosen_access g a.security_model a.security_level a.context_name.now (map access_of (rows_in a.w.now a.accesses))) e)
