-- The text of a row that decides. Assumes nothing.
use Rattle.std.specs.Prelude.{List, [], ◌∷◌, ◌++◌, ℕ}
use Rattle.std.proofs.Math.Option.{none, some}
use Rattle.rows.specs.declared.Table.TheVariants.{Access, View}
use Rattle.rows.specs.Rows.{AccessRow, ViewRow}
use Rattle.decision_match.specs.Matches.{Choice, faulty, chosen, view_key_of, access_key_of}
use Rattle.text_values.specs.Texts.{decimal_text}
use Rattle.text_rows.specs.RowText.{key_text}
use Rattle.call_answers.specs.Answers.{fault_text}

-- "none"
abbrev pub none_text : List ℕ
none_text = 110 ∷ 111 ∷ 110 ∷ 101 ∷ []

-- what such a call is told: a fault by its number, none by that word, a row by its own text
abbrev pub match_text : {R : Type 0} → (R → List ℕ) → Choice R → List ℕ
match_text row_text (faulty f) = fault_text f
match_text row_text (chosen none) = none_text
match_text row_text (chosen (some r)) = row_text r

-- of a view row the fields of its key, a space, the type; of an access row the fields of its key
abbrev pub typed_text : List (List ℕ) → ℕ → List ℕ
typed_text fields type = key_text View fields ++ (32 ∷ decimal_text type)

abbrev pub view_match_text : Choice ViewRow → List ℕ
view_match_text c = match_text (λ r. typed_text (view_key_of r) r.family_type) c

abbrev pub access_match_text : Choice AccessRow → List ℕ
access_match_text c = match_text (λ r. key_text Access (access_key_of r)) c
