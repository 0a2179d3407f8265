-- `decision_parts::by_name` meets its contract: an empty name and a view without rows are noSuchView, and of a view with rows those found hold all of it
-- (`Standings`). Assumes nothing.
use Rattle.decision_parts.proofs.Standings.{view-some}
use Rattle.decision_parts.proofs.by_name.Goals as goal

pub returns : goal.returns
returns c = view-some _ _ _ _ c.if-from-to.false c.requires.name c.find_view-rows.ensures c.if-rows-eq0.false
