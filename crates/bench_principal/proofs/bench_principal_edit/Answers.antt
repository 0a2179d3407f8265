-- The call's own promise, for the operation and the table of the numbers. Assumes nothing.
use mathlib.Core.Path.{sym}
use Rattle.bench_principal.proofs.bench_principal_edit.Goals as goal

pub returns : goal.returns
returns c =
    record {
      answer = c.principal_edit.result;
      promise = rw (sym c.table_numbered.ensures, sym c.operation_numbered.ensures) c.principal_edit.ensures;
      number_is = c.edited_number.ensures;
    }
