-- The fields of a line by their kinds, read from its words one after the other; a line of kinds has no word over.
--
--     Number       a decimal number          Key     a table's word and its key fields
--     Name         octets in hex             Edit    `create` or `change` and a row, a table's word and its fields, or `remove` and a key
--     Identifier   numbers with dots
--
-- What a line means picks its values by their places. Assumes nothing.
use Rattle.std.specs.Prelude.{List, [], ◌∷◌, ℕ, get_or}
use Rattle.std.proofs.Math.Option.{Option, none, some, bind, map}
use Rattle.numbers.specs.Lists.{find}
use Rattle.numbers.specs.Order.{same}
use Rattle.rows.specs.declared.Table.{Table}
use Rattle.rows.specs.declared.Table.TheVariants.{Context}
use Rattle.edit_rules.specs.declared.Operation.{Operation}
use Rattle.edit_rules.specs.declared.Operation.TheVariants.{Create, Change, Remove}
use Rattle.edit_rules.specs.Edits.{Edit, edit_of}
use Rattle.text_words.specs.Words.{decimal, hex_octets, dotted}
use Rattle.text_rows.specs.EntryWords.{Entry, entry_said}
use Rattle.line_fields.specs.declared.Kind.{Kind}
use Rattle.line_fields.specs.declared.Kind.TheVariants.{Number, Name, Identifier, Key, Edit as Kind-as-Edit}

-- ---- values: the octets of a name, the parts of an identifier, a number as the list of that number, or the bytes of a row or a key

pub record Value : Type 0 where
  pub operation : Operation
  pub table : Table
  pub parts : List ℕ

abbrev pub value_of : Operation → Table → List ℕ → Value
value_of o t b = record { operation = o; table = t; parts = b }

-- what has no operation and no table has these
abbrev pub plain : List ℕ → Value
plain x = value_of Create Context x

-- what a field says, and the words behind it
pub record Taken : Type 0 where
  pub value : Value
  pub rest : List (List ℕ)

abbrev pub taken : Value → List (List ℕ) → Taken
taken v ws = record { value = v; rest = ws }

-- ---- a field of one word

abbrev pub one_word : (List ℕ → Option (List ℕ)) → List (List ℕ) → Option Taken
one_word says [] = none
one_word says (w ∷ ws) = map (λ x. taken (plain x) ws) (says w)

abbrev pub number : List ℕ → Option (List ℕ)
number w = map (λ n. n ∷ []) (decimal w)

-- ---- a row or a key, and an edit

abbrev pub entered : Operation → Option Entry → Option Taken
entered o none = none
entered o (some e) = some (taken (value_of o e.table e.bytes) e.rest)

-- create, change, remove
abbrev pub operation_word : Operation → List ℕ
operation_word Create = 99 ∷ 114 ∷ 101 ∷ 97 ∷ 116 ∷ 101 ∷ []
operation_word Change = 99 ∷ 104 ∷ 97 ∷ 110 ∷ 103 ∷ 101 ∷ []
operation_word Remove = 114 ∷ 101 ∷ 109 ∷ 111 ∷ 118 ∷ 101 ∷ []

abbrev pub operations : List Operation
operations = Create ∷ Change ∷ Remove ∷ []

unfoldable pub operation_named : List ℕ → Option Operation
operation_named w = find (λ o. same (operation_word o) w) operations

-- what the operation of the first word is handed by the others
abbrev pub edited : List ℕ → List (List ℕ) → Option Taken
edited w ws = bind (operation_named w) (λ o. entered o (entry_said o ws))

abbrev pub edit_said : List (List ℕ) → Option Taken
edit_said [] = none
edit_said (w ∷ ws) = edited w ws

-- ---- a field of each kind, and the fields of a line

unfoldable pub kind_said : Kind → List (List ℕ) → Option Taken
kind_said Number ws = one_word number ws
kind_said Name ws = one_word hex_octets ws
kind_said Identifier ws = one_word dotted ws
kind_said Key ws = entered Remove (entry_said Remove ws)
kind_said Kind-as-Edit ws = edit_said ws

unfoldable pub values_said : List Kind → List (List ℕ) → Option (List Value)
values_said [] [] = some []
values_said [] (w ∷ ws) = none
values_said (k ∷ ks) ws = bind (kind_said k ws) (λ f. map (λ vs. f.value ∷ vs) (values_said ks f.rest))

-- ---- values picked by their places

abbrev pub value_at : ℕ → List Value → Value
value_at i vs = get_or vs i (plain [])

abbrev pub parts_at : ℕ → List Value → List ℕ
parts_at i vs = (value_at i vs).parts

abbrev pub number_at : ℕ → List Value → ℕ
number_at i vs = get_or (parts_at i vs) 0 0

abbrev pub edit_at : ℕ → List Value → Edit
edit_at i vs = edit_of (value_at i vs).operation (value_at i vs).table (parts_at i vs)
