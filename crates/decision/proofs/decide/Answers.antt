-- `decision::decide` meets its contract: the decision is its two parts, and a cause or a view is what the first came to (`Decisions`). Assumes nothing.
use mathlib.Core.Path.{◌∙◌}
use Rattle.decision_steps.specs.Bytes.{identifier}
use Rattle.decision_parts.proofs.Decisions.{denied-decision, viewed-decision, viewed-in}
use Rattle.decision.proofs.decide.Goals as goal

pub decide_in-requires : goal.decide_in-requires
decide_in-requires c = viewed-in c.authorize-authorized.ensures c.in-Ok.is

pub returns-in-Err : goal.returns-in-Err
returns-in-Err c = denied-decision c.authorize-authorized.ensures (identifier c.args.variable.now) c.in-Err.is

pub returns-in-Ok : goal.returns-in-Ok
returns-in-Ok c = c.decide_in.ensures ∙ viewed-decision c.authorize-authorized.ensures (identifier c.args.variable.now) c.in-Ok.is
