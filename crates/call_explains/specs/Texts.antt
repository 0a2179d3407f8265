-- The text of an explanation: the answer's number, and each row shown in the words of a line that puts it, in the order of the steps. Assumes nothing.
use Rattle.std.specs.Prelude.{◌≡◌, true, List, [], ◌∷◌, ◌++◌, ℕ, ◌≤◌, length, take}
use Rattle.std.proofs.Math.Option.{Option, none, some, map}
use Rattle.std.specs.Prelude.{Some, None}
use Rattle.answers.specs.Numbers.{answer_number}
use Rattle.rows.specs.declared.Table.{Table}
use Rattle.rows.specs.declared.Table.TheVariants.{Mapping, Access, View}
use Rattle.rows.specs.Fields.{legals, faults, values}
use Rattle.rows.specs.Rows.{row_fields, mapping_fields, access_fields, view_fields}
use Rattle.explain_rules.specs.Types.{Shown}
use Rattle.explain_rules.specs.declared.Explained.{Explained}
use Rattle.explain_rules.specs.Explanation.{Explanation, Rooms}
use Rattle.text_values.specs.Texts.{decimal_text}
use Rattle.text_rows.specs.RowText.{row_text}

-- a row by its fields, behind a space
abbrev pub shown_text : Table → Option (List (List ℕ)) → List ℕ
shown_text t none = []
shown_text t (some fields) = 32 ∷ row_text t fields

-- the number, and the rows by their fields
abbrev pub text_of : ℕ → (mapping access view : Option (List (List ℕ))) → List ℕ
text_of number mapping access view = decimal_text number ++ (shown_text Mapping mapping ++ (shown_text Access access ++ shown_text View view))

abbrev pub explanation_text : Explanation → List ℕ
explanation_text e =
    text_of (answer_number e.answer) (map mapping_fields e.mapping) (map access_fields e.access) (map view_fields e.view)

-- ---- how the code has it: at the front of a room

pub record RowIn (t : Table) (n : ℕ) (room : List ℕ) : Type 0 where
  pub inside : n ≤ length room
  pub sound : faults (row_fields t) (take n room) ≡ none
  pub legal : legals (row_fields t) (values (row_fields t) (take n room)) ≡ true

abbrev pub WholeIn : Table → Shown → List ℕ → Type 0
WholeIn t (Some n) room = RowIn t n room
WholeIn t None room = Unit {0}

abbrev pub fields_in : Table → Shown → List ℕ → Option (List (List ℕ))
fields_in t (Some n) room = some (values (row_fields t) (take n room))
fields_in t None room = none

abbrev pub handed_text : Explained → Rooms → List ℕ
handed_text e rooms =
    text_of (answer_number e.answer) (fields_in Mapping e.mapping rooms.mapping) (fields_in Access e.access rooms.access)
    (fields_in View e.view rooms.view)
