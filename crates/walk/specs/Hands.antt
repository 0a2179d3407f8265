-- What a walk hands back: the answer, and what is laid into the lent rooms. Assumes nothing.
use Rattle.std.specs.Prelude.{◌≡◌, List, ℕ}
use Rattle.numbers.specs.Laid.{laid}
use Rattle.walk_rules.specs.declared.Walked.{Walked}
use Rattle.walk_rules.specs.Walk.{Walk, LegalKey}

pub record Hands (walk : Walk) (parts parts' key key' : List ℕ) (r : Walked) : Type 0 where
  pub answer_is : r ≡ walk.answer
  pub parts_are : parts' ≡ laid 0 walk.identifier parts
  pub key_is : key' ≡ laid 0 walk.key key
  pub key_legal : LegalKey r key'
