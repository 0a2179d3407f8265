-- What the call of the decision answers to a request, of the store that it found. Assumes nothing.
use Rattle.std.specs.Prelude.{◌≡◌, List, ℕ}
use Rattle.answers.specs.Numbers.{answer_number}
use Rattle.answers.specs.Types.{Answer}
use Rattle.image.specs.Store.{held}
use Rattle.decision_steps.specs.Request.{Request}
use Rattle.decision_steps.specs.Decision.{answer}

-- the answer r to the request q, from the store `found`
pub record Decides (q : Request) (found : List ℕ) (r : Answer) : Type 0 where
  pub answer_is : r ≡ answer (held found) q
  pub number_is : answer_number r ≡ answer_number (answer (held found) q)
