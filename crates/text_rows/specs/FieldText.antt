-- A field as text: a name or mask in hex, a subtree dotted, a number in decimal. Assumes nothing.
use Rattle.std.specs.Prelude.{◌≡◌, List, ℕ, ◌+◌, ◌≤◌, length, drop, get_or}
use Rattle.std.proofs.Math.Option.{none}
use Rattle.numbers.specs.BigEndian.{octet, quad}
use Rattle.rows.specs.declared.Form.{Form}
use Rattle.rows.specs.Fields.{Field, sequence, integer, fault, taken}
use Rattle.rows.specs.Forms.{field_of}
use Rattle.text_values.specs.Texts.{decimal_text, name_text, dotted_text}

abbrev pub field_text : Field → List ℕ → List ℕ
field_text (sequence octet lo hi) x = name_text x
field_text (sequence quad lo hi) x = dotted_text x
field_text (integer w lo hi) x = decimal_text (get_or x 0 0)

-- a field of form f lies in the row from `at` to `end`, and nothing is wrong with it
pub record FieldIn (f : Form) (row : List ℕ) (at end : ℕ) : Type 0 where
  pub sound : fault (field_of f) (drop at row) ≡ none
  pub ends : end ≡ at + taken (field_of f) (drop at row)
  pub inside : end ≤ length row
