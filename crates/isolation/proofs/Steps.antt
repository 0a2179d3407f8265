-- The steps of calls beside the circle's rows, a clause for each kind of call.
-- A shared call does with the circle's rows alone what it does with all rows; any other call leaves the circle's rows; and every call keeps the tables
-- orderly. Assumes nothing.
use mathlib.Core.Path.{◌≡◌, refl, ap}
use mathlib.Core.Bool.{true, false, ◌&&◌}
use Rattle.numbers.proofs.Bools.{split, and_both}
use Rattle.rows.specs.Tables.{Tables}
use Rattle.calls.specs.Does.{Call, ask, owner, by, by_set, walk, decided, walked}
use Rattle.calls.proofs.Steps.{stepped, set_stepped, step}
use Rattle.isolation.specs.Isolation.{Circle, of_circle, is_member, shared, stays_inside, insiders_edit, keeps_to_group, keeps_to_views}
use Rattle.isolation.specs.Isolation.{finds_room, refuses_others, Confined}
use Rattle.isolation.proofs.Circles.{implied, circle_rows, Orderly}
use Rattle.isolation.proofs.Edits.{fits_both}
use Rattle.isolation.proofs.Asks.{ask-shared}
use Rattle.isolation.proofs.OwnerEdits.{owner-shared, owner-other, owner-orderly}
use Rattle.isolation.proofs.PrincipalEdits.{member-shared, others-other, member-orderly, others-orderly}
use Rattle.isolation.proofs.Sets.{set-shared, set_other, set-orderly, set-other-orderly}
use Rattle.isolation.proofs.Walks.{LegalKeys, walk-shared}

module _ (w : Circle) (t : Tables) where
  pub step-shared : (c : Call) → Orderly w t → LegalKeys t → shared w c ≡ true → stays_inside w c ≡ true
      → insiders_edit w (keeps_to_group w) c ≡ true → insiders_edit w (keeps_to_views w) c ≡ true → insiders_edit w (finds_room (step t c).0) c ≡ true
      → Confined w t c → step (circle_rows w t) c ≡ ((step t c).0, circle_rows w (step t c).1)
  unfolding step
  step-shared (ask q) i l h st g v ro co = ap (λ a. (decided a, circle_rows w t)) (ask-shared w t q i h)
  step-shared (owner e) i l h st g v ro co = ap stepped (owner-shared w t e i h (implied (of_circle w e) _ ro h))
  step-shared (by c e) i l h st g v ro co =
      let o : of_circle w e ≡ true = implied (is_member w c) _ st h in
      ap stepped (member-shared w t c e i h o (implied (is_member w c && of_circle w e) _ ro (and_both h o)))
  step-shared (by_set c es) i l h st g v ro co = ap set_stepped (set-shared w t c es h g v i st ro)
  step-shared (walk c identifier) i l h st g v ro co = ap (λ a. (walked a, circle_rows w t)) (walk-shared w t c i h identifier l (co h))

  pub step_other : (c : Call) → shared w c ≡ false → refuses_others w c (step t c).0 ≡ true → circle_rows w (step t c).1 ≡ circle_rows w t
  unfolding step
  step_other (ask q) h r = refl
  step_other (owner e) h r = owner-other w t e h
  step_other (by c e) h r = others-other w t c e h r
  step_other (by_set c es) h r = set_other w t c es h r
  step_other (walk c identifier) h r = refl

  pub step-orderly : (c : Call) → Orderly w t → insiders_edit w (keeps_to_group w) c ≡ true
      → insiders_edit w (keeps_to_views w) c ≡ true → refuses_others w c (step t c).0 ≡ true → Orderly w (step t c).1
  unfolding step
  step-orderly (ask q) i g v r = i
  step-orderly (owner e) i g v r = owner-orderly w t e (fits_both w e (of_circle w e) (λ o. o) g v) i
  step-orderly (by c e) i g v r =
      split (is_member w c) (λ m. member-orderly w t c e (fits_both w e (is_member w c && of_circle w e) (λ o. and_both m o) g v) i)
      (λ m. others-orderly w t c e m r i)
  step-orderly (by_set c es) i g v r =
      split (is_member w c) (λ m. set-orderly w t c es m g v i) (λ m. set-other-orderly w t c es m r i)
  step-orderly (walk c identifier) i g v r = i
