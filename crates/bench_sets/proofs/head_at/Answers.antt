-- `bench_sets::head_at` meets its contract: four numbers where they are there. Assumes nothing.
use mathlib.Core.Path.{◌≡◌, sym, ◌∙◌}
use Prim.Native.Nat.{ℕ, ◌+◌, ◌*◌}
use native.Mathlib.Omega.{arith}
use borrow.Author.Tests.{lt-ltb, le-ltb}
use Rattle.numbers.proofs.Bools.{cond-true, cond-false}
use Rattle.rows.specs.declared.Table.{Table}
use Rattle.edit_rules.specs.declared.Operation.{Operation}
use Rattle.set_rules.specs.declared.SetEdit.{SetEdit}
use Rattle.bench_sets.proofs.head_at.Goals as goal

head-same : {o p : Operation} {t u : Table} {from end : ℕ} → o ≡ p → t ≡ u
    → ◌≡◌ {A = SetEdit} (record { operation = o; table = t; from = from; end = end }) (record { operation = p; table = u; from = from; end = end })
head-same p q = rw (p, q)

pub returns-then-heads-at : goal.returns-then-heads-at
returns-then-heads-at c = sym (cond-true _ _ (lt-ltb _ _ c.if-heads-at.true))

pub overflow_cast-from : goal.overflow_cast-from
overflow_cast-from c = let a = c.args in omega (arith, c.shared_slice_known-4-1.given (4 * a.i + 2))

pub overflow_cast-end : goal.overflow_cast-end
overflow_cast-end c = let a = c.args in omega (arith, c.shared_slice_known-5-1.given (4 * a.i + 3))

pub returns : goal.returns
returns c = head-same c.operation_numbered-operation.ensures c.table_numbered-table.ensures ∙ sym (cond-false _ _ (le-ltb _ _ c.if-heads-at.false))
