-- A table's row or key as text, in the words of a line: the table's word, and the fields in order. Octets are ASCII. Assumes nothing.
use Rattle.std.specs.Prelude.{◌≡◌, List, [], ◌∷◌, ◌++◌, ℕ, ◌≤◌, length, take}
use Rattle.std.proofs.Math.Option.{none}
use Rattle.rows.specs.declared.Shape.{Shape}
use Rattle.rows.specs.declared.Shape.TheVariants.{Row, Key}
use Rattle.rows.specs.declared.Table.{Table}
use Rattle.rows.specs.Fields.{Field, faults}
use Rattle.rows.specs.Rows.{row_fields, fields_of}
use Rattle.text_rows.specs.TableWords.{table_word}
use Rattle.text_rows.specs.FieldText.{field_text}

-- each field with a space in front
unfoldable pub fields_text : List Field → List (List ℕ) → List ℕ
fields_text [] xs = []
fields_text (k ∷ ks) [] = []
fields_text (k ∷ ks) (x ∷ xs) = 32 ∷ (field_text k x ++ fields_text ks xs)

-- the word, and the fields of a row or a key
unfoldable pub entry_text : Shape → Table → List (List ℕ) → List ℕ
entry_text s t xs = table_word t ++ fields_text (fields_of s t) xs

abbrev pub row_text : Table → List (List ℕ) → List ℕ
row_text t xs = entry_text Row t xs

abbrev pub key_text : Table → List (List ℕ) → List ℕ
key_text t xs = entry_text Key t xs

-- the bytes of the first n fields of a row, and no more
pub record Fields (n : ℕ) (t : Table) (row : List ℕ) : Type 0 where
  pub places : n ≤ length (row_fields t)
  pub sound : faults (take n (row_fields t)) row ≡ none
