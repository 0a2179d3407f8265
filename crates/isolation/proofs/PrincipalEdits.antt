-- Principals' edits beside the circle.
-- A member's edit of the circle is judged by the circle's rows as by all rows: the tables' judgement is by decisions of the member, and the row held is
-- the circle's. Another principal's edit of the circle is refused, and so changes nothing; outside the circle it does not show in its rows.
-- Assumes nothing.
use mathlib.Core.Path.{◌≡◌, ap, ap₂, ◌∙◌}
use mathlib.Core.Bool.{true, false, cond, not, ◌&&◌}
use mathlib.Core.List.{[]}
use Rattle.std.specs.Prelude.{Err}
use Rattle.answers.specs.declared.Refusal.TheVariants.{Faulty}
use Rattle.answers.specs.declared.Fault.TheVariants.{OutOfRange, ContextTable}
use Rattle.numbers.proofs.Bools.{split, not-true}
use Rattle.rows.specs.Tables.{Tables}
use Rattle.decision_steps.specs.Request.{asked, write}
use Rattle.instance_encode.specs.Instances.{instance}
use Rattle.edit_rules.specs.Edits.{Edit, Caller, shape_of, index_of_edit, legal_edit, legal_caller, is_context, columns_written, judgement_at, judgement}
use Rattle.edit_rules.specs.Edits.{faulted, settled}
use Rattle.edit_rules.proofs.Refusals.{refusals-same}
use Rattle.edits.specs.Calls.{allowed, principal_judged, principal_edit}
use Rattle.calls.specs.Does.{by, edited}
use Rattle.isolation.specs.Isolation.{Circle, of_circle, is_member, finds_room, refuses_others}
use Rattle.isolation.proofs.Circles.{implied, circle_rows, Orderly}
use Rattle.isolation.proofs.Decisions.{decision-keep}
use Rattle.isolation.proofs.Edits.{circle_of, fault-circle, settled-in, settled-out, settled-refused, fits, settled-orderly}

module _ (w : Circle) (t : Tables) (c : Caller) (e : Edit) where
  judgement-circle : Orderly w t → is_member w c ≡ true → judgement (circle_rows w t) c e ≡ judgement t c e
  unfolding judgement_at
  judgement-circle i m =
      refusals-same
      (λ column. decision-keep w t i
      (asked c.security_model c.security_name c.security_level write [] (instance e.table column (index_of_edit e))) m)
      (columns_written (shape_of e.operation) e.table)

  pub judged-circle : Orderly w t → is_member w c ≡ true → of_circle w e ≡ true → principal_judged (circle_rows w t) c e ≡ principal_judged t c e
  unfolding principal_judged
  judged-circle i m h =
      ap₂ (λ d f. cond (legal_caller c && legal_edit e) (cond (is_context e.table) (Err (Faulty ContextTable)) (allowed d (faulted f))) (Err (Faulty OutOfRange)))
      (judgement-circle i m) (fault-circle w t e h true)

  pub member-shared : Orderly w t → is_member w c ≡ true → of_circle w e ≡ true → finds_room (edited (principal_edit t c e).answer) e ≡ true
      → principal_edit (circle_rows w t) c e ≡ circle_of w (principal_edit t c e)
  unfolding principal_edit
  member-shared i m h q = ap (λ v. settled v (circle_rows w t) e) (judged-circle i m h) ∙ settled-in w t e h i (principal_judged t c e) q

  -- another's edit of the circle is refused
  others-left : is_member w c ≡ false → of_circle w e ≡ true → refuses_others w (by c e) (edited (principal_edit t c e).answer) ≡ true
      → (principal_edit t c e).rows ≡ t
  unfolding principal_edit
  others-left m o r = settled-refused (principal_judged t c e) t e (not-true _ (implied (not (is_member w c) && of_circle w e) _ r (rw (m, o))))

  pub others-other : is_member w c ≡ false → refuses_others w (by c e) (edited (principal_edit t c e).answer) ≡ true
      → circle_rows w (principal_edit t c e).rows ≡ circle_rows w t
  unfolding principal_edit
  others-other m r =
      split (of_circle w e) (λ o. ap (circle_rows w) (others-left m o r)) (λ o. settled-out w t e o (principal_judged t c e))

  pub member-orderly : fits w e ≡ true → Orderly w t → Orderly w (principal_edit t c e).rows
  unfolding principal_edit
  member-orderly f i = settled-orderly w t e f i (principal_judged t c e)

  -- an edit outside the circle fits
  pub others-orderly : is_member w c ≡ false → refuses_others w (by c e) (edited (principal_edit t c e).answer) ≡ true → Orderly w t
      → Orderly w (principal_edit t c e).rows
  others-orderly m r i = split (of_circle w e) (λ o. rw (others-left m o r) i) (λ o. member-orderly (rw o) i)
