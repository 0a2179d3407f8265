-- `set_judge::room_in` meets its contract: what is weighed is few, so that the sums stay small. Assumes nothing.
use mathlib.Core.Path.{sym, ap, ◌∙◌}
use mathlib.Core.List.{[]}
use Prim.Native.Nat.{◌≤◌}
use native.Mathlib.Omega.{arith}
use Rattle.rows.specs.declared.Table.{Table}
use Rattle.rows.specs.declared.Table.TheVariants.{Context, Mapping, Access, View}
use Rattle.rows.specs.Rows.{limit}
use Rattle.numbers.proofs.Bools.{cond-true, cond-false}
use Rattle.set_rules.specs.Handed.{edits_from}
use Rattle.set_rules.specs.Made.{room_weighed}
use Rattle.set_judge.proofs.Places.{weight-most, length-edits}
use Rattle.set_judge.proofs.room_in.Goals as goal

limit-most : (t : Table) → limit t ≤ 96
limit-most Context = omega arith
limit-most Mapping = omega arith
limit-most Access = omega arith
limit-most View = omega arith

-- what is weighed is no more than the edits

pub overflow_add-over : goal.overflow_add-over
overflow_add-over c =
    let few : (c.weigh-w.result.creates ≤ 8) × (c.weigh-w.result.removals ≤ 8) = let es = edits_from c.args.edits [] 0 c.args.count in let m = weight-most c.args.t 1 es in let n = length-edits c.args.edits [] 0 c.args.count in rw c.weigh-w.ensures (omega (arith, m.0, n, c.requires.few), omega (arith, m.1, n, c.requires.few)) in
    omega (arith, (few).1, c.limit.ensures, limit-most c.args.t)

pub overflow_add-over-2 : goal.overflow_add-over-2
overflow_add-over-2 c =
    let few : (c.weigh-w.result.creates ≤ 8) × (c.weigh-w.result.removals ≤ 8) = let es = edits_from c.args.edits [] 0 c.args.count in let m = weight-most c.args.t 1 es in let n = length-edits c.args.edits [] 0 c.args.count in rw c.weigh-w.ensures (omega (arith, m.0, n, c.requires.few), omega (arith, m.1, n, c.requires.few)) in
    omega (arith, (few).0, c.requires.rows, limit-most c.args.t)

pub returns-then-w-over : goal.returns-then-w-over
unfolding room_weighed
returns-then-w-over c =
    let a = c.args in
    sym (cond-true _ _ (rw c.limit.ensures at c.if-w-over.true)) ∙ ap (room_weighed a.t a.n) c.weigh-w.ensures

pub returns : goal.returns
unfolding room_weighed
returns c =
    let a = c.args in
    sym (cond-false _ _ (rw c.limit.ensures at c.if-w-over.false)) ∙ ap (room_weighed a.t a.n) c.weigh-w.ensures
