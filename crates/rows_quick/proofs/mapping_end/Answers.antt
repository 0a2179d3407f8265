-- `rows_quick::mapping_end` meets its contract: None tells nothing, and past the tests the row is legal (`Legal`). Assumes nothing.
use Rattle.rows.specs.declared.Table.TheVariants.{Mapping}
use Rattle.rows_quick.proofs.Legal.{joined, told, mapping-legal}
use Rattle.rows_quick.proofs.mapping_end.Goals as goal

pub returns : goal.returns
unfolding joined
returns c =
    told Mapping c.args.row.now _ c.then_some.ensures (λ e. mapping-legal c.args.row.now _ _ _
    c.quad_at-model.ensures.value c.byte_at-name.ensures.value c.byte_at-group.ensures.value
    (rw (← c.within.ensures, ← c.within-2.ensures, ← c.within-3.ensures, ← c.ends_well.ensures) e))
