-- `rows_quick::access_end` meets its contract: None tells nothing, and past the tests the row is legal (`Legal`). Assumes nothing.
use native.Mathlib.Omega.{arith}
use Rattle.rows.specs.declared.Table.TheVariants.{Access}
use Rattle.rows_quick.proofs.Legal.{joined, told, access-legal}
use Rattle.rows_quick.proofs.access_end.Goals as goal

pub returns : goal.returns
unfolding joined
returns c =
    told Access c.args.row.now _ c.then_some.ensures (λ e. access-legal c.args.row.now _ _ _ _ c.access_rest_fits.result (omega arith)
    c.byte_at-group.ensures.value c.byte_at-prefix.ensures.value c.quad_at-model.ensures.value c.byte_at-level.ensures.value c.access_rest_fits.ensures
    (rw (← c.within.ensures, ← c.within-2.ensures, ← c.within-3.ensures, ← c.within-4.ensures) e))
