-- An identifier read as the instance of a column: the inverse of the encoding (document 01, "Row instances"). Assumes nothing.
use Rattle.std.specs.Prelude.{◌≡◌, cond, List, [], ◌∷◌, ◌++◌, ℕ, length, drop}
use Rattle.std.proofs.Math.Option.{Option, none, some, map, bind}
use Rattle.std.specs.Prelude.{Ok, Err, Some, None}
use Rattle.numbers.specs.Lists.{find}
use Rattle.numbers.specs.Order.{begins}
use Rattle.answers.specs.declared.Fault.TheVariants.{NotAnInstance}
use Rattle.rows.specs.declared.Table.{Table}
use Rattle.rows.specs.declared.Table.TheVariants.{Context, Mapping, Access, View}
use Rattle.rows.specs.Fields.{row_bytes}
use Rattle.rows.specs.Rows.{key_fields}
use Rattle.instance_fields.specs.Indices.{parse_index}
use Rattle.instance_decode.specs.Types.{Found}
use Rattle.instance_decode.specs.Types.{Decoded}
use Rattle.instance_decode.specs.Numbers.{decoded_number}
use Rattle.instance_encode.specs.Instances.{base, lists}

-- ---- the whole identifier: a base, a column that its table lists, and an index

-- table, column and the key's fields
pub record Reading : Type 0 where
  pub table : Table
  pub column : ℕ
  pub fields : List (List ℕ)

abbrev pub read_index : Table → ℕ → List ℕ → Option Reading
read_index t column v = map (λ xs. record { table = t; column = column; fields = xs }) (parse_index (key_fields t) v)

unfoldable pub read_column : Table → List ℕ → Option Reading
read_column t [] = none
read_column t (c ∷ v) = cond (lists t c) (read_index t c v) none

-- no base begins another, so that the order of the tables does not matter
unfoldable pub table_of : List ℕ → Option Table
table_of oid = find (λ t. begins (base t) oid) (Context ∷ Mapping ∷ Access ∷ View ∷ [])

unfoldable pub read_instance : List ℕ → Option Reading
read_instance oid = bind (table_of oid) (λ t. read_column t (drop (length (base t)) oid))

-- the table found, if any is
abbrev pub found_in : Option Table → Found
found_in none = None
found_in (some t) = Some t

-- ---- the call: the key comes back in the form of the image, at the front of the lent buffer

abbrev pub key_bytes : Reading → List ℕ
key_bytes d = row_bytes (key_fields d.table) d.fields

abbrev pub decoded : Option Reading → Decoded
decoded none = Err NotAnInstance
decoded (some d) = Ok (record { table = d.table; column = d.column; key = length (key_bytes d) })

abbrev pub buffered : Option Reading → List ℕ → List ℕ
buffered none found = found
buffered (some d) found = key_bytes d ++ drop (length (key_bytes d)) found

-- what is read, handed over: the answer and its number; the buffer is the key and then as found, or wholly as found
pub record Delivers (d : Option Reading) (found after : List ℕ) (r : Decoded) : Type 0 where
  pub answer_is : r ≡ decoded d
  pub number_is : decoded_number r ≡ decoded_number (decoded d)
  pub buffer_is : after ≡ buffered d found

abbrev pub Decodes : (oid found after : List ℕ) → Decoded → Type 0
Decodes oid found after r = Delivers (read_instance oid) found after r
