-- Document 02, ticket 3, sentence by sentence: what the judgement of `Edits` comes to, for any tables, caller and row. Assumes nothing.
use Rattle.std.specs.Prelude.{◌≡◌, true, List, ℕ, ◌<◌}
use Rattle.answers.specs.declared.Cause.{Cause}
use Rattle.answers.specs.declared.Decision.TheVariants.{Allowed, Refused}
use Rattle.rows.specs.declared.Shape.TheVariants.{Row, Key}
use Rattle.rows.specs.declared.Table.{Table}
use Rattle.rows.specs.Tables.{Tables}
use Rattle.instance_encode.specs.Instances.{lists, status_column}
use Rattle.edit_rules.specs.Edits.{Caller, column_judged, judgement_at}

-- "ascending, and the first cause met is the answer"
pub record FirstMet (ts : Tables) (c : Caller) (t : Table) (index : List ℕ) (cause : Cause) : Type 0 where
  pub column : ℕ
  pub listed : lists t column ≡ true
  pub refused : column_judged ts c t index column ≡ Refused cause
  pub below : (other : ℕ) → lists t other ≡ true → other < column → column_judged ts c t index other ≡ Allowed

pub record EveryColumnCounts : Type 0 where
  -- "A principal's put", by ticket 6 a create or a change, "is .. judged at every column of the row's table listed in document 01"
  pub put_allowed : (ts : Tables) (c : Caller) (t : Table) (index : List ℕ) → judgement_at ts c Row t index ≡ Allowed
      → (column : ℕ) → lists t column ≡ true → column_judged ts c t index column ≡ Allowed
  pub put_refused : (ts : Tables) (c : Caller) (t : Table) (index : List ℕ) {cause : Cause} → judgement_at ts c Row t index ≡ Refused cause
      → FirstMet ts c t index cause
  -- "a removal stays with the status column"
  pub removal : (ts : Tables) (c : Caller) (t : Table) (index : List ℕ) → judgement_at ts c Key t index ≡ column_judged ts c t index (status_column t)
