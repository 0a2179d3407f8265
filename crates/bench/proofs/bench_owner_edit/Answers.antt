-- The call's own promise, for the operation and the table of the numbers. Assumes nothing.
use mathlib.Core.Path.{sym}
use Rattle.bench.proofs.bench_owner_edit.Goals as goal

pub returns : goal.returns
returns c =
    record {
      answer = c.owner_edit.result;
      promise = rw (sym c.table_numbered.ensures, sym c.operation_numbered.ensures) c.owner_edit.ensures;
      number_is = c.edited_number.ensures;
    }
