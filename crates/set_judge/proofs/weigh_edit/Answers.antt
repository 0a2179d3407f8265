-- `set_judge::weigh_edit` meets its contract: by the table, then by the operation (`Weights`). Assumes nothing.
use mathlib.Core.Path.{◌≡◌, sym, ◌∙◌}
use mathlib.Core.Bool.{true}
use Rattle.set_rules.specs.Sets.{same_table}
use Rattle.set_judge.proofs.Weights.{weighed-elsewhere, weighed-create, weighed-removal, weighed-change}
use Rattle.set_judge.proofs.weigh_edit.Goals as goal

pub returns-then-not-is_same_table : goal.returns-then-not-is_same_table
returns-then-not-is_same_table c =
    let a = c.args in
    weighed-elsewhere a.t a.position a.u a.w a.o (sym c.is_same_table.ensures ∙ c.if-not-is_same_table.true)

-- it is of this table

pub returns-then-is_create : goal.returns-then-is_create
returns-then-is_create c =
    let here : let a = c.args in same_table a.t a.u ≡ true = sym c.is_same_table.ensures ∙ c.if-not-is_same_table.false in
    let a = c.args in
    weighed-create a.t a.position a.u a.w here a.o (sym c.is_create.ensures ∙ c.if-is_create.true)

pub returns-then-is_removal : goal.returns-then-is_removal
returns-then-is_removal c =
    let here : let a = c.args in same_table a.t a.u ≡ true = sym c.is_same_table.ensures ∙ c.if-not-is_same_table.false in
    let a = c.args in
    weighed-removal a.t a.position a.u a.w here a.o (sym c.is_removal.ensures ∙ c.if-is_removal.true)

pub returns : goal.returns
returns c =
    let here : let a = c.args in same_table a.t a.u ≡ true = sym c.is_same_table.ensures ∙ c.if-not-is_same_table.false in
    let a = c.args in
    weighed-change a.t a.position a.u a.w here a.o (sym c.is_create.ensures ∙ c.if-is_create.false)
    (sym c.is_removal.ensures ∙ c.if-is_removal.false)
