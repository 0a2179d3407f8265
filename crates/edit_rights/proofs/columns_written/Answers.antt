-- `edit_rights::columns_written` meets its contract: in each arm the operation is known, and the status is a column by itself. Assumes nothing.
use mathlib.Core.Path.{ap}
use mathlib.Core.List.{[], ◌∷◌}
use native.Mathlib.Omega.{arith}
use Rattle.edit_rights.proofs.Written.{status-few}
use Rattle.edit_rights.proofs.columns_written.Goals as goal

pub returns-in-Row : goal.returns-in-Row
returns-in-Row c =
    rw c.in-Row.is
    (let e = c.columns_of.ensures in record { written = e.listed; few = e.few })

pub returns-in-Key : goal.returns-in-Key
returns-in-Key c =
    rw c.in-Key.is
    record { written = ap (λ column. column ∷ []) c.status_column.ensures; few = omega (arith, c.status_column.ensures, status-few c.args.t) }
