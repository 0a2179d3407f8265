-- Decision requests beside the circle.
-- A member's request is told by the circle's rows what it is told by all rows (`Decisions`), and every request leaves the tables. Assumes nothing.
use mathlib.Core.Path.{◌≡◌}
use mathlib.Core.Bool.{true}
use Rattle.rows.specs.Tables.{Tables}
use Rattle.numbers.proofs.Bools.{split}
use Rattle.decision_steps.specs.Request.{Request, legal_request}
use Rattle.decision_steps.specs.Decision.{answer_on}
use Rattle.isolation.specs.Isolation.{Circle}
use Rattle.isolation.proofs.Circles.{circle_rows, Orderly}
use Rattle.isolation.proofs.Decisions.{decision-keep}

pub ask-shared : (w : Circle) (t : Tables) (q : Request) → Orderly w t → w.member q.security_model q.security_name ≡ true
    → answer_on (circle_rows w t) q ≡ answer_on t q
ask-shared w t q i h = split (legal_request q) (λ l. rw (l, decision-keep w t i q h)) (λ l. rw l)
