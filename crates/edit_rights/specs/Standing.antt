-- What a principal's standing lets it write: steps 1 to 4 for a write in the empty context, which are the same for every edit of a caller. Assumes nothing.
use Rattle.std.specs.Prelude.{◌≡◌, List, ℕ}
use Rattle.std.specs.Prelude.{Ok, Err}
use Rattle.answers.specs.declared.Decision.{Decision}
use Rattle.answers.specs.declared.Decision.TheVariants.{Refused}
use Rattle.rows.specs.declared.Shape.{Shape}
use Rattle.rows.specs.declared.Table.{Table}
use Rattle.image_layout.specs.declared.Layout.{Layout}
use Rattle.image_judge.specs.Faults.{tables_at}
use Rattle.decision_steps.specs.Decision.{step5}
use Rattle.decision_parts.specs.Types.{Standing}
use Rattle.decision_parts.specs.Parts.{ViewIn, rows_of}
use Rattle.instance_encode.specs.Instances.{instance}
use Rattle.edit_rules.specs.Edits.{Caller, columns_written, first_refusal, judgement_at}

-- the view of a standing lies in the image
abbrev pub StandingIn : List ℕ → Standing → Type 0
StandingIn w (Err cause) = Unit {0}
StandingIn w (Ok v) = ViewIn w v

-- the edit of the row with this index, judged by it
abbrev pub judged_by : List ℕ → Standing → Shape → Table → List ℕ → Decision
judged_by w (Err cause) s t index = Refused cause
judged_by w (Ok v) s t index = first_refusal (λ column. step5 (instance t column index) (rows_of w v)) (columns_written s t)

-- it is the caller's: what it judges is what the tables do
pub record Stands (w : List ℕ) (l : Layout) (c : Caller) (r : Standing) : Type 0 where
  pub lies : StandingIn w r
  pub judges : (s : Shape) (t : Table) (index : List ℕ) → judged_by w r s t index ≡ judgement_at (tables_at w l) c s t index
