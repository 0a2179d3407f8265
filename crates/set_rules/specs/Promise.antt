-- What the call of a set promises: as an edit does, with one answer and one refusal that leaves the store as found, and the position. Assumes nothing.
use Rattle.std.specs.Prelude.{◌≡◌, List, ℕ}
use Rattle.std.proofs.Math.Option.{Option, none, some}
use Rattle.rows.specs.Tables.{Tables}
use Rattle.image.specs.Store.{held}
use Rattle.edit_rules.specs.Edits.{Edit, Caller, Outcome, outcome}
use Rattle.edit_rows.specs.Promise.{Edits}
use Rattle.set_rules.specs.declared.SetAnswer.{SetAnswer}
use Rattle.set_rules.specs.Sets.{principal_set}

abbrev pub set_outcome : Caller → List Edit → Tables → Outcome
set_outcome c es ts = outcome (principal_set ts c es).answer.answer (principal_set ts c es).rows

-- 6 carries 0
abbrev pub position_in : Caller → List Edit → Option Tables → ℕ
position_in c es none = 0
position_in c es (some ts) = (principal_set ts c es).answer.position

pub record PrincipalSets (c : Caller) (es : List Edit) (found after : List ℕ) (r : SetAnswer) : Type 0 where
  pub edits : Edits (set_outcome c es) found after r.answer
  pub position_is : r.position ≡ position_in c es (held found)
