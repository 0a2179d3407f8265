-- The text of each answer, and the room that it takes at most. Assumes nothing.
use Rattle.std.specs.Prelude.{List, [], ◌∷◌, ◌++◌, ℕ, ◌+◌, ◌*◌, ◌≤◌, length}
use Rattle.std.proofs.Math.Option.{Option, none, some}
use Rattle.answers.specs.declared.Fault.{Fault}
use Rattle.answers.specs.declared.Fault.TheVariants.{NotSound, NotAnInstance}
use Rattle.answers.specs.Numbers.{fault_number}
use Rattle.rows.specs.declared.Table.{Table}
use Rattle.rows.specs.Tables.{Tables}
use Rattle.rows.specs.Fields.{values}
use Rattle.rows.specs.Rows.{key_fields, index_of}
use Rattle.instance_encode.specs.Instances.{instance, encode_fault}
use Rattle.instance_decode.specs.Decoding.{Reading}
use Rattle.image.specs.Store.{room}
use Rattle.image_transfer.specs.Transfer.{image_of}
use Rattle.text_values.specs.Texts.{decimal_text, hex_text, dotted_text, Puts}
use Rattle.text_rows.specs.RowText.{key_text}

-- "oid ", "instance ", "image "
abbrev pub oid_text : List ℕ
oid_text = 111 ∷ 105 ∷ 100 ∷ 32 ∷ []

abbrev pub instance_word : List ℕ
instance_word = 105 ∷ 110 ∷ 115 ∷ 116 ∷ 97 ∷ 110 ∷ 99 ∷ 101 ∷ 32 ∷ []

abbrev pub image_text : List ℕ
image_text = 105 ∷ 109 ∷ 97 ∷ 103 ∷ 101 ∷ 32 ∷ []

abbrev pub fault_text : Fault → List ℕ
fault_text f = decimal_text (fault_number f)

-- room for an instance in parts: the longest has 110
abbrev pub parts : ℕ
parts = 128

abbrev pub encoded_text : Option Fault → List ℕ → List ℕ
encoded_text none oid = oid_text ++ dotted_text oid
encoded_text (some f) oid = fault_text f

abbrev pub instance_text : Table → ℕ → List ℕ → List ℕ
instance_text t column key = encoded_text (encode_fault t column key parts) (instance t column (index_of t key))

-- a column, a space, the fields of a key; the key by its bytes
abbrev pub column_key : Table → ℕ → List (List ℕ) → List ℕ
column_key t column fields = decimal_text column ++ (32 ∷ key_text t fields)

abbrev pub column_key_of : Table → ℕ → List ℕ → List ℕ
column_key_of t column key = column_key t column (values (key_fields t) key)

abbrev pub decoded_text : Option Reading → List ℕ
decoded_text none = fault_text NotAnInstance
decoded_text (some d) = instance_word ++ column_key d.table d.column d.fields

abbrev pub image_text_of : Option Tables → List ℕ
image_text_of none = fault_text NotSound
image_text_of (some t) = image_text ++ hex_text (image_of t)

-- room for the longest answer: `image `, and two digits to each octet of the largest image
abbrev pub answer_room : ℕ
answer_room = 6 + 2 * room

abbrev pub Room : ℕ → List ℕ → Type 0
Room at out = at + answer_room ≤ length out

-- the text is put into the buffer, and takes no more than that room
pub record Told (text : List ℕ) (at : ℕ) (w after : List ℕ) (r : ℕ) : Type 0 where
  pub puts : Puts text at w after r
  pub short : length text ≤ answer_room
