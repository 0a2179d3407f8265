-- `decision::decide_variable_in` meets its contract: the row found is the one to choose (`variable_row_in`), and `by_row` answers by it. Assumes nothing.
use mathlib.Core.Path.{ap, ◌∙◌}
use Rattle.answers.specs.declared.Cause.TheVariants.{NotInView}
use Rattle.decision_steps.specs.Decision.{or_refused, by_type}
use Rattle.decision.proofs.decide_variable_in.Goals as goal

pub by_row-requires : goal.by_row-requires
by_row-requires c = let k = c.variable_row_in.ensures in record { lies = k.lies; whole = k.whole }

pub returns : goal.returns
returns c = c.by_row.ensures ∙ ap (λ o. or_refused NotInView o by_type) c.variable_row_in.ensures.is
