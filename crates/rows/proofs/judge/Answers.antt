-- `rows::judge` meets its contract: a fault of the key's fields is the row's, then one of the fields behind them, then bytes over.
-- Assumes nothing.
use mathlib.Core.Path.{◌≡◌, ◌∙◌}
use mathlib.Core.List.{List}
use Prim.Native.Nat.{ℕ, ◌≤◌}
use native.Mathlib.Omega.{arith}
use lib.ListN.{length, drop}
use Rattle.answers.specs.declared.Fault.{Fault}
use Rattle.rows.specs.declared.Table.{Table}
use Rattle.std.specs.declared.result.Result.{Result}
use Rattle.std.specs.declared.result.Result.TheVariants.{Ok}
use Rattle.rows.specs.Fields.{faults, span}
use Rattle.rows.specs.Rows.{key_fields, rest_fields, row_fields}
use Rattle.rows.specs.Steps.{fields_step}
use Rattle.answers.proofs.Results.{handed_on}
use Rattle.rows.proofs.Appends.{row-split}
use Rattle.rows.proofs.Forms.{rest-behind}
use Rattle.rows.proofs.Walks.{fields-stop, fields-bad, fields-end, fields-inside, fields_go, fields-whole}
use Rattle.rows.proofs.judge.Goals as goal

-- past the key, which ends at `a`: that it ends there, and what the row's fault is there
record Keyed (t : Table) (row : List ℕ) (a : ℕ) : Type 0 where
  ends : span (key_fields t) row ≡ a
  inside : a ≤ length row
  row_fault : faults (row_fields t) row ≡ faults (rest_fields t) (drop a row)

keyed : (t : Table) (row : List ℕ) (a : ℕ) {r : Result ℕ Fault} → r ≡ fields_step (key_fields t) row 0 → r ≡ Ok a → Keyed t row a
keyed t row a e q = record {
  ends = omega (arith, fields-end (key_fields t) row 0 e q);
  inside = fields-inside (key_fields t) row 0 e q (omega arith);
  row_fault = rw (row-split t) (fields_go (key_fields t) row 0 e q (rest_fields t));
}

pub returns-in_err-key : goal.returns-in_err-key
returns-in_err-key c =
    let s = c.args in
    handed_on c.in_err-key.was c.from_residual.ensures
    ∙ rw (row-split s.t) (fields-stop (key_fields s.t) s.row.now 0 c.judge_front.ensures c.in_err-key.was (rest_fields s.t) _)

-- where the key was passed, behind the call for the fields behind it
pub fields-requires-clause-inside : goal.fields-requires-clause-inside
fields-requires-clause-inside c = let k = keyed c.args.t c.args.row.now c.in_ok-key.key c.judge_front.ensures c.in_ok-key.was in k.inside

pub returns-in_err-end : goal.returns-in_err-end
returns-in_err-end c =
    let s = c.args in
    let k = keyed s.t s.row.now c.in_ok-key.key c.judge_front.ensures c.in_ok-key.was in
    handed_on c.in_err-end.was c.from_residual-in_err-end.ensures
    ∙ rw k.row_fault
    (fields-bad (rest_fields s.t) s.row.now c.in_ok-key.key
    (rw (c.key_len.ensures, c.row_len.ensures, rest-behind s.t) at c.fields.ensures) c.in_err-end.was
    (span (key_fields s.t) s.row.now))

pub returns : goal.returns
returns c =
    let s = c.args in
    let k = keyed s.t s.row.now c.in_ok-key.key c.judge_front.ensures c.in_ok-key.was in
    let e = fields-whole (rest_fields s.t) s.row.now c.in_ok-key.key
    (rw (c.key_len.ensures, c.row_len.ensures, rest-behind s.t) at c.fields.ensures) c.in_ok-end.was in
    rw (k.row_fault, e, k.ends) c.whole.ensures
