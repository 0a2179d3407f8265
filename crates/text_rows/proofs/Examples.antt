-- A mapping in the words of a line, and its bytes, and keys as text: the definitions computed. Assumes nothing.
use mathlib.Core.Path.{◌≡◌, refl}
use mathlib.Core.List.{List, [], ◌∷◌}
use mathlib.Core.Option.{some, bind}
use Prim.Native.Nat.{ℕ}
use lib.ListN.{take}
use Rattle.numbers.specs.Order.{same}
use Rattle.text_words.specs.Words.{split, words, decimal, digits_from, hex_digit, hex_pairs, hex_octets}
use Rattle.rows.specs.declared.Table.TheVariants.{Mapping, Access, View}
use Rattle.rows.specs.Rows.{key_fields, row_fields}
use Rattle.text_values.specs.Texts.{digits, decimal_text, hex_text, name_text, dots_text, dotted_text}
use Rattle.edit_rules.specs.declared.Operation.TheVariants.{Create, Remove}
use Rattle.text_fields.specs.RowWords.{fields_said}
use Rattle.text_rows.specs.TableWords.{table_named}
use Rattle.text_rows.specs.EntryWords.{entry_said}
use Rattle.text_rows.specs.RowText.{fields_text, entry_text, key_text}

-- mapping 3 616e6e 61 3 1
abbrev pub ann_line : List ℕ
ann_line =
    109 ∷ 97 ∷ 112 ∷ 112 ∷ 105 ∷ 110 ∷ 103 ∷ 32 ∷ 51 ∷ 32 ∷ 54 ∷ 49 ∷ 54 ∷ 101 ∷ 54 ∷ 101 ∷ 32 ∷ 54 ∷ 49 ∷ 32 ∷ 51 ∷ 32 ∷ 49 ∷ []

-- model 3, "ann", group "a", nonVolatile, active
abbrev pub ann_row : List ℕ
ann_row = 0 ∷ 0 ∷ 0 ∷ 3 ∷ 3 ∷ 97 ∷ 110 ∷ 110 ∷ 1 ∷ 97 ∷ 3 ∷ 1 ∷ []

pub ann-said : entry_said Create (words ann_line) ≡ some (record { table = Mapping; bytes = ann_row; rest = [] })
unfolding same split table_named decimal digits_from hex_digit hex_pairs hex_octets row_fields entry_said fields_said bind
ann-said = refl

-- read as a key, it has the words of the other fields behind it
pub ann-key : entry_said Remove (words ann_line)
    ≡ some (record { table = Mapping; bytes = take 8 ann_row; rest = (54 ∷ 49 ∷ []) ∷ (51 ∷ []) ∷ (49 ∷ []) ∷ [] })
unfolding same split table_named decimal digits_from hex_digit hex_pairs hex_octets key_fields entry_said fields_said bind
ann-key = refl

-- `mapping 3 616e6e`, `access 61 - 0 3` and `view 616c6c 1.3.6.1`, as computed
pub ann-text : key_text Mapping ((3 ∷ []) ∷ (97 ∷ 110 ∷ 110 ∷ []) ∷ [])
    ≡ 109 ∷ 97 ∷ 112 ∷ 112 ∷ 105 ∷ 110 ∷ 103 ∷ 32 ∷ 51 ∷ 32 ∷ 54 ∷ 49 ∷ 54 ∷ 101 ∷ 54 ∷ 101 ∷ []
unfolding entry_text key_fields fields_text name_text hex_text decimal_text digits
ann-text = refl

pub access-text : key_text Access ((97 ∷ []) ∷ [] ∷ (0 ∷ []) ∷ (3 ∷ []) ∷ [])
    ≡ 97 ∷ 99 ∷ 99 ∷ 101 ∷ 115 ∷ 115 ∷ 32 ∷ 54 ∷ 49 ∷ 32 ∷ 45 ∷ 32 ∷ 48 ∷ 32 ∷ 51 ∷ []
unfolding entry_text key_fields fields_text name_text hex_text decimal_text digits
access-text = refl

pub all-text : key_text View ((97 ∷ 108 ∷ 108 ∷ []) ∷ (1 ∷ 3 ∷ 6 ∷ 1 ∷ []) ∷ [])
    ≡ 118 ∷ 105 ∷ 101 ∷ 119 ∷ 32 ∷ 54 ∷ 49 ∷ 54 ∷ 99 ∷ 54 ∷ 99 ∷ 32 ∷ 49 ∷ 46 ∷ 51 ∷ 46 ∷ 54 ∷ 46 ∷ 49 ∷ []
unfolding entry_text key_fields fields_text name_text hex_text dotted_text dots_text decimal_text digits
all-text = refl
