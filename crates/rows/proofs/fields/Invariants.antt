-- `rows::fields` meets its contract: judging the fields that are left, from the place reached, answers what judging all of them does (`Walk`).
-- A field without fault takes the walk on, a fault is the answer. Assumes nothing.
use lib.ListN.{take, drop}
use Rattle.rows.specs.Rows.{row_fields}
use Rattle.rows.specs.Steps.{fields_step}
use Rattle.rows.proofs.Walks.{Walk}
use Rattle.rows.proofs.fields.Given as goal

abbrev pub invariant-loop-i : goal.invariant-loop-i
invariant-loop-i l = let ks = take l.to (row_fields l.t) in
    Walk (fields_step (drop l.from ks) l.row l.at) (drop l.i ks) l.row l.a
