-- A call as a step from tables to its answer and the tables that it leaves: what a call does with a store is its step on the tables held.
-- Kind by kind, from the call's own promise. Assumes nothing.
use mathlib.Core.Path.{◌≡◌, ap, ◌∙◌}
use mathlib.Core.List.{List}
use mathlib.Core.Option.{some}
use Prim.Native.Nat.{ℕ}
use Rattle.rows.specs.Tables.{Tables}
use Rattle.image.specs.Store.{held}
use Rattle.decision_steps.specs.Request.{legal_request}
use Rattle.decision_steps.specs.Decision.{if_legal, answer}
use Rattle.edit_rules.specs.Types.{Edited}
use Rattle.edit_rules.specs.Edits.{Outcome}
use Rattle.edit_rows.specs.Promise.{answered, left, Edits}
use Rattle.walk_rules.specs.Walk.{walk_on, walk_in}
use Rattle.walk_rules.proofs.Handed.{handed-is}
use Rattle.edits.specs.Calls.{owner_edit, principal_edit}
use Rattle.set_rules.specs.declared.SetAnswer.{SetAnswer}
use Rattle.set_rules.specs.Sets.{SetOutcome, principal_set}
use Rattle.set_rules.specs.Promise.{set_outcome, position_in}
use Rattle.calls.specs.Does.{Call, ask, owner, by, by_set, walk, Reply, decided, edited, set_edited, walked, Does, asks, owns, acts, acts_all, walks}

abbrev pub stepped : Outcome → Reply × Tables
stepped o = (edited o.answer, o.rows)

abbrev pub set_stepped : SetOutcome → Reply × Tables
set_stepped o = (set_edited o.answer, o.rows)

unfoldable pub step : Tables → Call → Reply × Tables
step t (ask q) = (decided (if_legal (legal_request q) t q), t)
step t (owner e) = stepped (owner_edit t e)
step t (by c e) = stepped (principal_edit t c e)
step t (by_set c es) = set_stepped (principal_set t c es)
step t (walk c identifier) = (walked (walk_on t c identifier), t)

-- ---- a call on a store that holds tables

edits-step : (f : Tables → Outcome) (s s' : List ℕ) (t : Tables) (r : Edited) → Edits f s s' r → held s ≡ some t
    → (r ≡ (f t).answer) × (held s' ≡ some (f t).rows)
edits-step f s s' t r d e = (d.answer_is ∙ ap (answered f) e, d.rows_are ∙ ap (left f) e)

answer-same : {r a : SetAnswer} → r.answer ≡ a.answer → r.position ≡ a.position → r ≡ a
answer-same e p = rw (e, p)

pub does-step : {s s' : List ℕ} {c : Call} {r : Reply} → (t : Tables) → Does s c r s' → held s ≡ some t
    → (r ≡ (step t c).0) × (held s' ≡ some (step t c).1)
unfolding step
does-step t (asks {q = q} d) e = (ap decided (d.answer_is ∙ ap (λ o. answer o q) e), e)
does-step t (owns {e = a} d) e = let h = edits-step (λ u. owner_edit u a) _ _ t _ d e in (ap edited h.0, h.1)
does-step t (acts {c = c} {e = a} d) e = let h = edits-step (λ u. principal_edit u c a) _ _ t _ d e in (ap edited h.0, h.1)
does-step t (acts_all {c = c} {es = es} d) e =
    let h = edits-step (set_outcome c es) _ _ t _ d.edits e in
    (ap set_edited (answer-same h.0 (d.position_is ∙ ap (position_in c es) e)), h.1)
does-step t (walks {c = c} {identifier = i} d) e = (ap walked (handed-is d ∙ ap (λ o. walk_in o c i) e), e)
