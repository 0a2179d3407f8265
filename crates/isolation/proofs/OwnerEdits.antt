-- The owner's edits beside the circle.
-- Of the circle, an owner's edit is judged by the circle's rows as by all rows, and does with them what it does with all. Outside the circle it does
-- not show in its rows. Assumes nothing.
use mathlib.Core.Path.{◌≡◌, ap, ◌∙◌}
use mathlib.Core.Bool.{true, false, cond}
use Rattle.std.specs.Prelude.{Err}
use Rattle.answers.specs.declared.Refusal.TheVariants.{Faulty}
use Rattle.answers.specs.declared.Fault.TheVariants.{OutOfRange}
use Rattle.rows.specs.Tables.{Tables}
use Rattle.edit_rules.specs.Edits.{Edit, legal_edit, faulted, settled}
use Rattle.edits.specs.Calls.{owner_judged, owner_edit}
use Rattle.calls.specs.Does.{edited}
use Rattle.isolation.specs.Isolation.{Circle, of_circle, finds_room}
use Rattle.isolation.proofs.Circles.{circle_rows, Orderly}
use Rattle.isolation.proofs.Edits.{circle_of, fault-circle, settled-in, settled-out, fits, settled-orderly}

module _ (w : Circle) (t : Tables) (e : Edit) where
  judged-circle : of_circle w e ≡ true → owner_judged (circle_rows w t) e ≡ owner_judged t e
  unfolding owner_judged
  judged-circle h = ap (λ f. cond (legal_edit e) (faulted f) (Err (Faulty OutOfRange))) (fault-circle w t e h false)

  pub owner-shared : Orderly w t → of_circle w e ≡ true → finds_room (edited (owner_edit t e).answer) e ≡ true
      → owner_edit (circle_rows w t) e ≡ circle_of w (owner_edit t e)
  unfolding owner_edit
  owner-shared i h q = ap (λ v. settled v (circle_rows w t) e) (judged-circle h) ∙ settled-in w t e h i (owner_judged t e) q

  pub owner-other : of_circle w e ≡ false → circle_rows w (owner_edit t e).rows ≡ circle_rows w t
  unfolding owner_edit
  owner-other h = settled-out w t e h (owner_judged t e)

  pub owner-orderly : fits w e ≡ true → Orderly w t → Orderly w (owner_edit t e).rows
  unfolding owner_edit
  owner-orderly f i = settled-orderly w t e f i (owner_judged t e)
