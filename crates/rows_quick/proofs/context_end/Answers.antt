-- `rows_quick::context_end` meets its contract: None tells nothing, and past the tests the row is legal (`Legal`). Assumes nothing.
use Rattle.rows.specs.declared.Table.TheVariants.{Context}
use Rattle.rows_quick.proofs.Legal.{joined, told, context-legal}
use Rattle.rows_quick.proofs.context_end.Goals as goal

pub returns : goal.returns
unfolding joined
returns c = told Context c.args.row.now _ c.then_some.ensures (λ e. context-legal c.args.row.now _ c.byte_at-name.ensures.value (rw (← c.within.ensures) e))
