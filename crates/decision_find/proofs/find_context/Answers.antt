-- `decision_find::find_context` meets its contract: the row that `find_row` finds is the first context row that bears the name. Assumes nothing.
use Rattle.std.proofs.Common.{rules}
use Rattle.rows.specs.declared.Table.TheVariants.{Context}
use Rattle.rows.specs.Rows.{context_of}
use Rattle.decision_steps.specs.Decision.{bears_context}
use Rattle.decision_find.proofs.Scans.{chosen-read}
use Rattle.decision_find.proofs.find_context.Goals as goal

pub returns : goal.returns
returns c = chosen-read context_of (bears_context c.args.context_name.now) _ (c.find_row.ensures.is Context _ c.requires (λ row b h. search rules))
