-- `decision_find::find_view` meets its contract. The loop's invariant: a walk from the end (`Looking`), none of the rows passed being in the view.
-- So the first row met that is in it is the last, and the rows up to it hold all of the view; when the loop ends the view has none.
-- The measure is how many rows are left. Assumes nothing.
use Rattle.decision_steps.specs.Decision.{in_view}
use Rattle.decision_find.proofs.Views.{Looking}
use Rattle.decision_find.proofs.find_view.Given as goal

abbrev pub invariant-loop-n : goal.invariant-loop-n
invariant-loop-n l = Looking (in_view l.view_name) l.w l.x l.n l.g l.e

abbrev pub decreases-loop-n : goal.decreases-loop-n
decreases-loop-n l = l.n
