-- A table's row or key said in the words of a line: the table's word, and the fields in order; and what the code reads of it. Assumes nothing.
use Rattle.std.specs.Prelude.{◌≡◌, List, [], ◌∷◌, ℕ, suc, ◌+◌, ◌*◌, ◌≤◌, length, take}
use Rattle.std.proofs.Math.Option.{Option, none, some, bind, Option-elim}
use Rattle.std.specs.Prelude.{Some, None}
use Rattle.edit_rules.specs.declared.Operation.{Operation}
use Rattle.rows.specs.declared.Shape.{Shape}
use Rattle.rows.specs.declared.Table.{Table}
use Rattle.rows.specs.Rows.{row_fields, fields_of}
use Rattle.edit_rules.specs.Edits.{shape_of}
use Rattle.text_words.specs.Words.{words_from}
use Rattle.text_fields.specs.RowWords.{Said, fields_said, fields_front}
use Rattle.text_rows.specs.TableWords.{table_named}
use Rattle.text_rows.specs.declared.Slot.{Slot}
use Rattle.text_rows.specs.Types.{Found}

-- what a row or a key of a table says, and the words behind it
pub record Entry : Type 0 where
  pub table : Table
  pub bytes : List ℕ
  pub rest : List (List ℕ)

abbrev pub entry_of : Table → Option Said → Option Entry
entry_of t none = none
entry_of t (some s) = some (record { table = t; bytes = s.of; rest = s.rest })

-- a row or a key, as the operation has it
unfoldable pub entry_said : Operation → List (List ℕ) → Option Entry
entry_said o [] = none
entry_said o (w ∷ ws) = bind (table_named w) (λ t. entry_of t (fields_said (fields_of (shape_of o) t) ws))

-- the bytes of its fields in front of the first word that is missing or malformed; none, where no table is named
unfoldable pub entry_front : Operation → List (List ℕ) → List ℕ
entry_front o [] = []
entry_front o (w ∷ ws) = Option-elim (table_named w) [] (λ t. fields_front (fields_of (shape_of o) t) ws)

-- ---- how the code reads it

-- so many fields of the table are those of a row or a key
pub record Counts (n : ℕ) (s : Shape) (t : Table) : Type 0 where
  pub fields_are : take n (row_fields t) ≡ fields_of s t
  pub inside : n ≤ length (row_fields t)

-- the slot says where the bytes lie that are said, from `from` on; the next word begins at `next`
pub record Entering (s : Slot) (next : ℕ) (o : Operation) (from at : ℕ) (line : List ℕ) (e : Option Entry) : Type 0 where
  pub of : List ℕ
  pub is : e ≡ some (record { table = s.table; bytes = of; rest = words_from next line })
  pub operation_is : s.operation ≡ o
  pub begins : s.from ≡ from
  pub ends : s.end ≡ from + length of
  pub next_in : next ≤ suc (length line)
  pub short : s.end + 4 * at ≤ from + 4 * next

abbrev pub Enters : Found → (o : Operation) (from at : ℕ) (line : List ℕ) → Option Entry → Type 0
Enters (Some (s, next)) o from at line e = Entering s next o from at line e
Enters None o from at line e = e ≡ none
