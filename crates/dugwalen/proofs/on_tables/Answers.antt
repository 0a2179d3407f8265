-- `dugwalen::on_tables` meets its contract: each test settles what the number is (`CCall`). The variable has as many parts as its bytes have fours,
-- so that `in_range` judges the very request. Assumes nothing.
use mathlib.Core.Path.{◌≡◌, sym, ap, ◌∙◌}
use mathlib.Core.Bool.{true}
use Prim.Native.Nat.{◌%◌}
use native.Mathlib.Omega.{arith}
use lib.ListN.{length}
use borrow.Author.Tests.{eq-eqb, ne_eqb}
use Rattle.answers.specs.Numbers.{decision_number}
use Rattle.image_judge.specs.Faults.{tables_at}
use Rattle.decision_steps.specs.Request.{Request, asked, in_range, legal_request}
use Rattle.decision_steps.specs.Bytes.{identifier}
use Rattle.decision_steps.proofs.Identifiers.{length-identifier}
use Rattle.rows.specs.Tables.{Tables}
use Rattle.dugwalen.specs.CCall.{in_parts}
use Rattle.dugwalen.proofs.CCall.{torn, illegal, decided}
use Rattle.dugwalen.proofs.on_tables.Goals as goal

-- no torn last part

-- what `in_range` judges

pub returns-then-n-ne0 : goal.returns-then-n-ne0
returns-then-n-ne0 c =
    let tables : Tables = tables_at c.args.image.now c.args.l in
    let a = c.args in
    c.fault_number.ensures
    ∙ torn a.security_model a.security_name.now a.security_level a.view_type a.context_name.now a.variable_name.now
    tables (ne_eqb (length a.variable_name.now % 4) 0 (λ e. omega arith))

pub returns-then-not-in_range : goal.returns-then-not-in_range
unfolding legal_request
returns-then-not-in_range c =
    let tables : Tables = tables_at c.args.image.now c.args.l in
    let whole : in_parts c.args.variable_name.now ≡ true = eq-eqb (length c.args.variable_name.now % 4) 0 (omega arith) in
    let request : Request = let a = c.args in asked a.security_model a.security_name.now a.security_level a.view_type a.context_name.now (identifier a.variable_name.now) in
    let legal : c.in_range.result ≡ legal_request (request) = let a = c.args in c.in_range.ensures ∙ ap (λ n. in_range a.security_model (length a.security_name.now) a.security_level a.view_type (length a.context_name.now) n) (sym (length-identifier a.variable_name.now)) in
    let a = c.args in
    c.fault_number-then-not-in_range.ensures
    ∙ illegal a.security_model a.security_name.now a.security_level a.view_type a.context_name.now a.variable_name.now
    tables whole (sym legal ∙ c.if-not-in_range.true)

pub returns : goal.returns
unfolding legal_request
returns c =
    let tables : Tables = tables_at c.args.image.now c.args.l in
    let whole : in_parts c.args.variable_name.now ≡ true = eq-eqb (length c.args.variable_name.now % 4) 0 (omega arith) in
    let request : Request = let a = c.args in asked a.security_model a.security_name.now a.security_level a.view_type a.context_name.now (identifier a.variable_name.now) in
    let legal : c.in_range.result ≡ legal_request (request) = let a = c.args in c.in_range.ensures ∙ ap (λ n. in_range a.security_model (length a.security_name.now) a.security_level a.view_type (length a.context_name.now) n) (sym (length-identifier a.variable_name.now)) in
    let a = c.args in
    c.decision_number.ensures
    ∙ ap decision_number c.decide-decided.ensures
    ∙ decided a.security_model a.security_name.now a.security_level a.view_type a.context_name.now a.variable_name.now
    tables whole (sym legal ∙ c.if-not-in_range.false)
