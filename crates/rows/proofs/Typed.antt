-- The rows of the four tables, typed.
-- Read off the bytes made of it, a legal row is as it was: its fields are, and the row is made of them.
-- The fields of the row that bytes hold are these bytes' values, whatever the bytes. Assumes nothing.
use mathlib.Core.Path.{◌≡◌, refl, ap}
use mathlib.Core.Bool.{true}
use mathlib.Core.List.{List}
use Prim.Native.Nat.{ℕ}
use Rattle.rows.specs.declared.Table.TheVariants.{Context, Mapping, Access, View}
use Rattle.rows.specs.Fields.{values, row_bytes, legals}
use Rattle.rows.specs.Rows.{row_fields, ContextRow, context_fields, context_from, context_of, MappingRow, mapping_fields, mapping_from, mapping_of, AccessRow}
use Rattle.rows.specs.Rows.{access_fields, access_from, access_of, ViewRow, view_fields, view_from, view_of}
use Rattle.rows.proofs.Inverse.{values-made}

-- a row made and read
pub context-made : (r : ContextRow) → legals (row_fields Context) (context_fields r) ≡ true → context_of (row_bytes (row_fields Context) (context_fields r)) ≡ r
context-made r h = ap context_from (values-made (row_fields Context) (context_fields r) h)

pub mapping-made : (r : MappingRow) → legals (row_fields Mapping) (mapping_fields r) ≡ true → mapping_of (row_bytes (row_fields Mapping) (mapping_fields r)) ≡ r
mapping-made r h = ap mapping_from (values-made (row_fields Mapping) (mapping_fields r) h)

pub access-made : (r : AccessRow) → legals (row_fields Access) (access_fields r) ≡ true → access_of (row_bytes (row_fields Access) (access_fields r)) ≡ r
access-made r h = ap access_from (values-made (row_fields Access) (access_fields r) h)

pub view_made : (r : ViewRow) → legals (row_fields View) (view_fields r) ≡ true → view_of (row_bytes (row_fields View) (view_fields r)) ≡ r
view_made r h = ap view_from (values-made (row_fields View) (view_fields r) h)

-- a row's fields are what its bytes hold
pub context-fields : (v : List ℕ) → context_fields (context_of v) ≡ values (row_fields Context) v
unfolding row_fields
context-fields v = refl

pub mapping-fields : (v : List ℕ) → mapping_fields (mapping_of v) ≡ values (row_fields Mapping) v
unfolding row_fields
mapping-fields v = refl

pub access-fields : (v : List ℕ) → access_fields (access_of v) ≡ values (row_fields Access) v
unfolding row_fields
access-fields v = refl

pub view_fields_lem : (v : List ℕ) → view_fields (view_of v) ≡ values (row_fields View) v
unfolding row_fields
view_fields_lem v = refl
