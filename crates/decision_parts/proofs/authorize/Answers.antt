-- `decision_parts::authorize` meets its contract. The rows found are those that the steps choose: where there is none the step's cause is told, with the
-- rows so far; of an access row `by_access` says what step 4 comes to (`Standings`). Assumes nothing.
use mathlib.Core.Path.{ap, ◌∙◌}
use mathlib.Core.Bool.{not}
use Rattle.decision_find.proofs.Chosen.{row-at, no_row}
use Rattle.decision_parts.proofs.Standings.{none-found, one-found, denied-context, denied-group, denied-entry, by_row}
use Rattle.decision_parts.proofs.authorize.Goals as goal

pub returns-then-is_none : goal.returns-then-is_none
returns-then-is_none c = denied-context _ _ _ _ _ _ _ (none-found _ c.find_context.ensures (c.is_none.ensures ∙ ap not c.if-is_none.true))

pub returns-in_default : goal.returns-in_default
returns-in_default c =
    let there = one-found _ c.find_context.ensures (c.is_none.ensures ∙ ap not c.if-is_none.false) in
    denied-group _ _ _ _ _ _ _ there.1 c.find_mapping-mapping.ensures (no_row c.find_mapping-mapping.ensures c.in_default.is)

pub returns-in_default-access : goal.returns-in_default-access
returns-in_default-access c =
    let there = one-found _ c.find_context.ensures (c.is_none.ensures ∙ ap not c.if-is_none.false) in
    let group = row-at c.find_mapping-mapping.ensures c.in-Some.is in
    denied-entry _ _ _ _ _ _ _ there.1 c.find_mapping-mapping.ensures group.is
    c.access_of-access.ensures (no_row c.access_of-access.ensures c.in_default-access.is)

pub returns : goal.returns
returns c =
    let there = one-found _ c.find_context.ensures (c.is_none.ensures ∙ ap not c.if-is_none.false) in
    let group = row-at c.find_mapping-mapping.ensures c.in-Some.is in
    let entry = row-at c.access_of-access.ensures c.in-Some-access.is in
    by_row _ _ _ _ _ _ _ there.1 c.find_mapping-mapping.ensures group.is
    c.access_of-access.ensures entry.is c.by_access.ensures
