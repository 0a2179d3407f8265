-- `decision::variable_row` meets its contract: the bytes written say the variable's parts again, each being below 2^32 (`Answers`), and the row is found
-- by them. Assumes nothing.
use mathlib.Core.Path.{ap}
use mathlib.Core.List.{List}
use Prim.Native.Nat.{ℕ, ◌<◌}
use native.Mathlib.Omega.{arith}
use lib.ListN.{get_or}
use Rattle.decision_steps.specs.Decision.{chosen_view}
use Rattle.decision_find.specs.Found.{rows_of_view}
use Rattle.decision_find.proofs.Chosen.{chosen-as}
use Rattle.decision.proofs.Answers.{written-room, written-identifier}
use Rattle.decision.proofs.variable_row.Goals as goal

pub slice_bounds-find_view_row-end : goal.slice_bounds-find_view_row-end
slice_bounds-find_view_row-end c =
    let parts : List ℕ = c.args.variable_name.now in
    written-room parts _ _ c.put_quads.ensures

pub returns : goal.returns
returns c =
    let parts : List ℕ = c.args.variable_name.now in
    let parts_below : (i : ℕ) → get_or (parts) i 0 < 4294967296 = λ i. omega (arith, c.type_inv.variable_name i) in
    let a = c.args in
    chosen-as c.find_view_row.ensures
    (ap (λ v. chosen_view v (rows_of_view a.view_name.now a.w.now a.rows.rows))
    (written-identifier parts _ _ c.put_quads.ensures parts_below))
