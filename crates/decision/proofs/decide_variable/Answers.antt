-- `decision::decide_variable` meets its contract, as `decide` does, by the second part of a variable in numbers. Assumes nothing.
use mathlib.Core.Path.{◌∙◌}
use Rattle.decision_parts.proofs.Decisions.{denied-decision, viewed-decision, viewed-in}
use Rattle.decision.proofs.decide_variable.Goals as goal

pub decide_variable_in-requires : goal.decide_variable_in-requires
decide_variable_in-requires c = record { view = viewed-in c.authorize-authorized.ensures c.in-Ok.is; parts = c.requires.parts }

pub returns-in-Err : goal.returns-in-Err
returns-in-Err c = denied-decision c.authorize-authorized.ensures c.args.variable_name.now c.in-Err.is

pub returns-in-Ok : goal.returns-in-Ok
returns-in-Ok c = c.decide_variable_in.ensures ∙ viewed-decision c.authorize-authorized.ensures c.args.variable_name.now c.in-Ok.is
