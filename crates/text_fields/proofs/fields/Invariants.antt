-- `text_fields::fields` meets its contract. The loop's invariant: the bytes filled, and what the words left say of the fields left, make what is
-- said (`OnWay`). Assumes nothing.
use mathlib.Core.Path.{◌≡◌}
use lib.ListN.{length, take, drop}
use Rattle.rows.specs.Rows.{row_fields}
use Rattle.text_fields.proofs.RowWords.{OnWay}
use Rattle.text_fields.proofs.fields.Given as goal

abbrev pub invariant-loop-i : goal.invariant-loop-i
invariant-loop-i l = (length l.out ≡ length l.initial.out)
    × OnWay (take l.n (row_fields l.t)) l.line l.initial.out l.out l.from l.at (drop l.i (take l.n (row_fields l.t))) l.a l.k
