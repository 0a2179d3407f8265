-- Edits of a few rows, by computation: what the row held lets be done, in which order it is judged, that a change wants no room, and what is left.
-- Assumes nothing.
use mathlib.Core.Path.{◌≡◌, refl}
use mathlib.Core.Bool.{Bool, true, false}
use mathlib.Core.List.{List, [], ◌∷◌, map}
use Prim.Native.Nat.{ℕ}
use Rattle.std.specs.Prelude.{Ok, Err}
use Rattle.answers.specs.declared.Refusal.TheVariants.{Faulty}
use Rattle.answers.specs.declared.Fault.{Fault}
use Rattle.answers.specs.declared.Fault.TheVariants.{TableFull, RowAbsent, StorageForbids, RowHeld}
use Rattle.numbers.specs.Order.{same, before}
use Rattle.rows.specs.declared.Table.TheVariants.{Context, Mapping}
use Rattle.rows.specs.Fields.{row_bytes}
use Rattle.rows.specs.Rows.{ContextRow, MappingRow, key_fields, row_fields}
use Rattle.rows.specs.Tables.{Tables}
use Rattle.instance_encode.specs.Instances.{counted}
use Rattle.edit_rules.specs.declared.Operation.{Operation}
use Rattle.edit_rules.specs.declared.Operation.TheVariants.{Create, Change}
use Rattle.edit_rules.specs.TableRows.{tables_of}
use Rattle.edit_rules.specs.Edits.{Outcome, outcome, edit_of, edit, row_fault, is_full, applied, index_of_edit, may_put}

-- ---- mappings of "a" and "b", of a storage

abbrev mapped : ℕ → ℕ → MappingRow
mapped name storage = record { security_model = 3; security_name = name ∷ []; group_name = name ∷ []; storage_type = storage; status = 1 }

abbrev a : ℕ → MappingRow
a storage = mapped 97 storage

abbrev b : ℕ → MappingRow
b storage = mapped 98 storage

abbrev mappings : List MappingRow → Tables
mappings rows = tables_of [] rows [] []

-- strict: by a principal, to whom the storage rules apply
unfoldable pub edited : Bool → Operation → ℕ → ℕ → List MappingRow → Outcome
unfolding edit row_fault is_full applied index_of_edit may_put key_fields row_fields same before
edited strict o name storage rows =
    edit strict (mappings rows)
    (edit_of o Mapping (row_bytes (row_fields Mapping) ((3 ∷ []) ∷ (name ∷ []) ∷ (name ∷ []) ∷ (storage ∷ []) ∷ (1 ∷ []) ∷ [])))

abbrev made : List MappingRow → Outcome
made rows = outcome (Ok tt) (mappings rows)

abbrev refused : Fault → List MappingRow → Outcome
refused f rows = outcome (Err (Faulty f)) (mappings rows)

-- a row is created where none is held, and changed where one is
pub created : edited false Create 98 3 (a 3 ∷ []) ≡ made (a 3 ∷ b 3 ∷ [])
unfolding edited
created = refl

pub created-twice : edited false Create 97 2 (a 3 ∷ []) ≡ refused RowHeld (a 3 ∷ [])
unfolding edited
created-twice = refl

pub changed : edited false Change 97 2 (a 3 ∷ b 3 ∷ []) ≡ made (a 2 ∷ b 3 ∷ [])
unfolding edited
changed = refl

pub changed-absent : edited false Change 98 3 (a 3 ∷ []) ≡ refused RowAbsent (a 3 ∷ [])
unfolding edited
changed-absent = refl

-- presence before storage; then storage, of a new row and over the row held
pub held_first : edited true Create 97 5 (a 3 ∷ []) ≡ refused RowHeld (a 3 ∷ [])
unfolding edited
held_first = refl

pub absent-first : edited true Change 98 5 (a 3 ∷ []) ≡ refused RowAbsent (a 3 ∷ [])
unfolding edited
absent-first = refl

pub fixed-new : edited true Create 98 4 (a 3 ∷ []) ≡ refused StorageForbids (a 3 ∷ [])
unfolding edited
fixed-new = refl

pub fixed-over : edited true Change 97 4 (a 3 ∷ []) ≡ refused StorageForbids (a 3 ∷ [])
unfolding edited
fixed-over = refl

pub permanent-over : edited true Change 97 4 (a 4 ∷ []) ≡ made (a 4 ∷ [])
unfolding edited
permanent-over = refl

-- ---- contexts of one octet, as many as there may be

abbrev context : ℕ → ContextRow
context name = record { context_name = name ∷ [] }

abbrev contexts : List ContextRow → Tables
contexts rows = tables_of rows [] [] []

abbrev sixteen : List ContextRow
sixteen = map context (counted 1 16)

unfoldable pub in_full : Operation → ℕ → Outcome
unfolding edit row_fault is_full applied index_of_edit key_fields row_fields same before
in_full o name = edit false (contexts sixteen) (edit_of o Context (row_bytes (row_fields Context) ((name ∷ []) ∷ [])))

pub full : in_full Create 17 ≡ outcome (Err (Faulty TableFull)) (contexts sixteen)
unfolding in_full
full = refl

-- "18 when the row to create is already held", not 9
pub full-held : in_full Create 5 ≡ outcome (Err (Faulty RowHeld)) (contexts sixteen)
unfolding in_full
full-held = refl

-- and a context row has nothing that could change
pub full-changed : in_full Change 5 ≡ outcome (Ok tt) (contexts sixteen)
unfolding in_full
full-changed = refl
