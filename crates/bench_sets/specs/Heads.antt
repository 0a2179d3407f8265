-- A set of edits as numbers: four for each edit, those of its operation and its table, and where its bytes begin and end. An answer as a number: 256
-- times the position and the number of the answer. Assumes nothing.
use Rattle.std.specs.Prelude.{cond, List, [], ◌∷◌, ℕ, ◌+◌, ◌*◌, ◌/◌, min, ltb, length, get_or}
use Rattle.edit_rules.specs.Edits.{edited_number}
use Rattle.set_rules.specs.declared.SetEdit.{SetEdit}
use Rattle.set_rules.specs.declared.EditSet.{EditSet}
use Rattle.set_rules.specs.declared.SetAnswer.{SetAnswer}
use Rattle.set_rules.specs.Sets.{most_edits}
use Rattle.set_rules.specs.Handed.{no_edit}
use Rattle.bench.specs.Measured.{operation_numbered, table_numbered}

abbrev pub head_of : (operation table from end : ℕ) → SetEdit
head_of o t from end = record { operation = operation_numbered o; table = table_numbered t; from = from; end = end }

abbrev pub head_in : List ℕ → ℕ → SetEdit
head_in heads i =
    cond (ltb (length heads) (4 * i + 4)) no_edit
    (head_of (get_or heads (4 * i) 0) (get_or heads (4 * i + 1) 0) (get_or heads (4 * i + 2) 0) (get_or heads (4 * i + 3) 0))

abbrev pub set_numbered : List ℕ → EditSet
set_numbered heads = record {
  edits = head_in heads 0 ∷ head_in heads 1 ∷ head_in heads 2 ∷ head_in heads 3 ∷ head_in heads 4 ∷ head_in heads 5 ∷ head_in heads 6 ∷ head_in heads 7 ∷ [];
  count = length heads / 4;
}

abbrev pub set_number : SetAnswer → ℕ
set_number a = min a.position most_edits * 256 + edited_number a.answer
