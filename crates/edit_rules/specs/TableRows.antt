-- The rows of a table, by the table: their type, the row that bytes hold, its index and storage, and the rows among those of the four tables.
-- Assumes nothing.
use Rattle.std.specs.Prelude.{List, ℕ}
use Rattle.rows.specs.declared.Table.{Table}
use Rattle.rows.specs.declared.Table.TheVariants.{Context, Mapping, Access, View}
use Rattle.rows.specs.Fields.{index}
use Rattle.rows.specs.Rows.{ContextRow, MappingRow, AccessRow, ViewRow, context_key, mapping_key, access_key, view_key, context_fields, mapping_fields, access_fields}
use Rattle.rows.specs.Rows.{view_fields, context_of, mapping_of, access_of, view_of}
use Rattle.rows.specs.Tables.{Tables}

abbrev pub RowOf : Table → Type 0
RowOf Context = ContextRow
RowOf Mapping = MappingRow
RowOf Access = AccessRow
RowOf View = ViewRow

abbrev pub row_of : (t : Table) → List ℕ → RowOf t
row_of Context bytes = context_of bytes
row_of Mapping bytes = mapping_of bytes
row_of Access bytes = access_of bytes
row_of View bytes = view_of bytes

-- ---- a row's fields, and its index

abbrev pub values_of : (t : Table) → RowOf t → List (List ℕ)
values_of Context r = context_fields r
values_of Mapping r = mapping_fields r
values_of Access r = access_fields r
values_of View r = view_fields r

abbrev pub context_index : ContextRow → List ℕ
context_index r = index context_key (context_fields r)

abbrev pub mapping_index : MappingRow → List ℕ
mapping_index r = index mapping_key (mapping_fields r)

abbrev pub access_index : AccessRow → List ℕ
access_index r = index access_key (access_fields r)

abbrev pub view_index : ViewRow → List ℕ
view_index r = index view_key (view_fields r)

abbrev pub row_index : (t : Table) → RowOf t → List ℕ
row_index Context r = context_index r
row_index Mapping r = mapping_index r
row_index Access r = access_index r
row_index View r = view_index r

-- ---- storage: 2 volatile, 3 nonVolatile, 4 permanent, 5 read_only

abbrev pub volatile : ℕ
volatile = 2

abbrev pub non_volatile : ℕ
non_volatile = 3

abbrev pub permanent : ℕ
permanent = 4

abbrev pub read_only : ℕ
read_only = 5

-- a context row has none, and only the owner edits it
abbrev pub storage_of : (t : Table) → RowOf t → ℕ
storage_of Context r = non_volatile
storage_of Mapping r = r.storage_type
storage_of Access r = r.storage_type
storage_of View r = r.storage_type

-- ---- the rows of one table among the four, and others in their place

abbrev pub rows_of : (t : Table) → Tables → List (RowOf t)
rows_of Context ts = ts.vacm_context_table
rows_of Mapping ts = ts.vacm_security_to_group_table
rows_of Access ts = ts.vacm_access_table
rows_of View ts = ts.vacm_view_tree_family_table

abbrev pub tables_of : List ContextRow → List MappingRow → List AccessRow → List ViewRow → Tables
tables_of c m a v = record { vacm_context_table = c; vacm_security_to_group_table = m; vacm_access_table = a; vacm_view_tree_family_table = v }

abbrev pub with_rows : (t : Table) → Tables → List (RowOf t) → Tables
with_rows Context ts rs = tables_of rs ts.vacm_security_to_group_table ts.vacm_access_table ts.vacm_view_tree_family_table
with_rows Mapping ts rs = tables_of ts.vacm_context_table rs ts.vacm_access_table ts.vacm_view_tree_family_table
with_rows Access ts rs = tables_of ts.vacm_context_table ts.vacm_security_to_group_table rs ts.vacm_view_tree_family_table
with_rows View ts rs = tables_of ts.vacm_context_table ts.vacm_security_to_group_table ts.vacm_access_table rs
