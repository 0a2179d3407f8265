-- `explain::judge` meets its contract: a cause refuses and has no row; in a view the row found is the one to choose, and `by_row` answers by it
-- (`Picks`). Assumes nothing.
use Rattle.explain.proofs.Picks.{judged-denied, view_in, judged-viewed}
use Rattle.explain.proofs.judge.Goals as goal

-- where a view was told

pub variable_row_in-view-requires : goal.variable_row_in-view-requires
variable_row_in-view-requires c = record { view = view_in c.args.variable_name.now c.in-Ok.is c.requires.view; parts = c.requires.parts }

pub by_row-decision-requires : goal.by_row-decision-requires
by_row-decision-requires c = let k = c.variable_row_in-view.ensures in record { lies = k.lies; whole = k.whole }

pub returns-in-Err : goal.returns-in-Err
returns-in-Err c = judged-denied c.args.variable_name.now c.in-Err.is

pub returns-in-Ok : goal.returns-in-Ok
returns-in-Ok c = judged-viewed c.args.variable_name.now c.in-Ok.is c.variable_row_in-view.ensures c.by_row-decision.ensures
