-- `decision::answer_request` meets its contract. A request out of its ranges is 7; otherwise `decide_variable` decides over the tables.
-- Assumes nothing.
use mathlib.Core.Path.{◌≡◌, sym, ap, ◌∙◌}
use mathlib.Core.Bool.{true, false}
use Prim.Native.Nat.{◌≤◌}
use lib.ListN.{length}
use Rattle.std.specs.Prelude.{Ok}
use Rattle.decision_steps.specs.Request.{Request, asked, legal_request, most_parts}
use Rattle.decision.proofs.Answers.{variable-few}
use Rattle.decision.proofs.answer_request.Goals as goal

pub returns-then-not-in_range : goal.returns-then-not-in_range
unfolding legal_request
returns-then-not-in_range c =
    let request : Request = let a = c.args in asked a.security_model a.security_name.now a.security_level a.view_type a.context_name.now a.variable_name.now in
    let illegal : legal_request (request) ≡ false = sym c.in_range.ensures ∙ c.if-not-in_range.true in
    sym (rw illegal)

pub decide_variable-requires : goal.decide_variable-requires
unfolding legal_request
decide_variable-requires c =
    let request : Request = let a = c.args in asked a.security_model a.security_name.now a.security_level a.view_type a.context_name.now a.variable_name.now in
    let legal : legal_request (request) ≡ true = sym c.in_range.ensures ∙ c.if-not-in_range.false in
    let few : length c.args.variable_name.now ≤ most_parts = variable-few request legal in
    record { tables = c.requires; parts = few }

pub returns : goal.returns
unfolding legal_request
returns c =
    let request : Request = let a = c.args in asked a.security_model a.security_name.now a.security_level a.view_type a.context_name.now a.variable_name.now in
    let legal : legal_request (request) ≡ true = sym c.in_range.ensures ∙ c.if-not-in_range.false in
    ap Ok c.decide_variable.ensures ∙ sym (rw legal)
