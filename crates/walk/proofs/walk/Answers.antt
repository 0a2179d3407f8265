-- `walk::walk` meets its contract. A store that is not sound is 6, a caller or an identifier out of its range 7; past both the tables that the store holds
-- are walked (`Walks`). Assumes nothing.
use mathlib.Core.Path.{◌≡◌, sym, ap, ap₂, ◌∙◌}
use mathlib.Core.Bool.{Bool, ◌&&◌}
use borrow.Author.Rules.{rules}
use Rattle.image_layout.specs.Layout.{layout_of}
use Rattle.image_judge.specs.Faults.{surveyed}
use Rattle.image.specs.Store.{call_fault}
use Rattle.image.proofs.Surveys.{Called, call-laid}
use Rattle.edit_rules.specs.Edits.{Caller, caller_of}
use Rattle.walk_rules.specs.declared.Walked.{Walked}
use Rattle.walk_rules.specs.Walk.{legal_walk}
use Rattle.walk.proofs.Reached.{hands-nothing}
use Rattle.walk.proofs.Walks.{walk_refused, walk-laid, hands-walks}
use Rattle.walk.proofs.walk.Goals as goal

pub walk_tables-requires : goal.walk_tables-requires
unfolding legal_walk
walk_tables-requires c =
    let caller : Caller = let a = c.args in caller_of a.security_model a.security_name.now a.security_level in
    let legal : Bool = legal_walk caller c.args.identifier.now in
    let answered : let w = c.args.store.now in c.survey_call.result ≡ surveyed (call_fault w (legal)) (layout_of w) = let w = c.args.store.now in c.survey_call.ensures ∙ ap (λ b. surveyed (call_fault w b) (layout_of w)) (ap₂ ◌&&◌ c.is_caller-caller.ensures c.is_short.ensures) in
    let called : Called c.args.store.now (legal) c.in-Ok.l = call-laid c.args.store.now legal (sym c.in-Ok.is ∙ answered) in
    record { tables = (called).sound; legal = (called).in_range; parts = search rules; room = search rules }

pub returns-in-Ok : goal.returns-in-Ok
unfolding legal_walk
returns-in-Ok c =
    let caller : Caller = let a = c.args in caller_of a.security_model a.security_name.now a.security_level in
    let legal : Bool = legal_walk caller c.args.identifier.now in
    let answered : let w = c.args.store.now in c.survey_call.result ≡ surveyed (call_fault w (legal)) (layout_of w) = let w = c.args.store.now in c.survey_call.ensures ∙ ap (λ b. surveyed (call_fault w b) (layout_of w)) (ap₂ ◌&&◌ c.is_caller-caller.ensures c.is_short.ensures) in
    let called : Called c.args.store.now (legal) c.in-Ok.l = call-laid c.args.store.now legal (sym c.in-Ok.is ∙ answered) in
    let r = hands-walks c.args.store.now caller c.args.identifier.now
    (walk-laid c.args.store.now caller c.args.identifier.now called) c.walk_tables.ensures in
    record { walks = r.0; legal = r.1 }

pub returns-in-Err : goal.returns-in-Err
unfolding legal_walk
returns-in-Err c =
    let caller : Caller = let a = c.args in caller_of a.security_model a.security_name.now a.security_level in
    let legal : Bool = legal_walk caller c.args.identifier.now in
    let answered : let w = c.args.store.now in c.survey_call.result ≡ surveyed (call_fault w (legal)) (layout_of w) = let w = c.args.store.now in c.survey_call.ensures ∙ ap (λ b. surveyed (call_fault w b) (layout_of w)) (ap₂ ◌&&◌ c.is_caller-caller.ensures c.is_short.ensures) in
    let r = hands-walks c.args.store.now caller c.args.identifier.now
    (walk_refused c.args.store.now caller c.args.identifier.now (sym c.in-Err.is ∙ answered))
    (hands-nothing (Walked.Faulty _) _ _ tt) in
    record { walks = r.0; legal = r.1 }
