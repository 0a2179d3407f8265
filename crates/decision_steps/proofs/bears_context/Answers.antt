-- `decision_steps::bears_context` meets its contract: a context row is its name. Assumes nothing.
use mathlib.Core.Path.{sym, ap, ◌∙◌}
use Rattle.decision_steps.specs.Decision.{bears_context}
use Rattle.decision_steps.proofs.Layouts.{context-at}
use Rattle.decision_steps.proofs.Steps.{bears-name}
use Rattle.decision_steps.proofs.bears_context.Goals as goal

pub is_name-requires : goal.is_name-requires
is_name-requires c = (context-at _ c.requires).name

pub returns : goal.returns
returns c = c.is_name.ensures ∙ bears-name _ _ ∙ sym (ap (bears_context c.args.context_name.now) (context-at _ c.requires).holds)
