-- `rows_quick::view_end` meets its contract: None tells nothing, and past the tests the row is legal (`Legal`). Assumes nothing.
use Rattle.rows.specs.declared.Table.TheVariants.{View}
use Rattle.rows_quick.proofs.Legal.{joined, told, view-legal}
use Rattle.rows_quick.proofs.view_end.Goals as goal

pub returns : goal.returns
unfolding joined
returns c =
    told View c.args.row.now _ c.then_some.ensures (λ e. view-legal c.args.row.now _ _ _ _
    c.byte_at-name.ensures.value c.byte_at-parts.ensures.value c.byte_at-mask.ensures.value c.byte_at-kind.ensures.value
    (rw (← c.within.ensures, ← c.within-2.ensures, ← c.within-3.ensures, ← c.within-4.ensures, ← c.ends_well.ensures) e))
