-- The four rows of RFC 3415, section 4, with the ranges of document 01, "Rows and their fields". Assumes nothing.
use Rattle.std.specs.Prelude.{List, [], ◌∷◌, ◌++◌, ℕ, get_or}
use Rattle.rows.specs.declared.Shape.{Shape}
use Rattle.rows.specs.declared.Shape.TheVariants.{Row, Key}
use Rattle.rows.specs.declared.Table.{Table}
use Rattle.rows.specs.declared.Table.TheVariants.{Context, Mapping, Access, View}
use Rattle.rows.specs.Fields.{Field, sequence, integer, values, index}
use Rattle.numbers.specs.BigEndian.{octet, quad}

-- ---- fields of several tables

-- the largest security model
abbrev pub model_max : ℕ
model_max = 2147483647

-- a name, and one that may be empty
abbrev pub some_name : Field
some_name = sequence octet 1 32

abbrev pub any_name : Field
any_name = sequence octet 0 32

-- 2 volatile to 5 readOnly; 1 active, 2 notInService
abbrev pub storage : Field
storage = integer octet 2 5

abbrev pub activity : Field
activity = integer octet 1 2

-- ---- vacmContextTable: a context name

pub record ContextRow : Type 0 where
  pub context_name : List ℕ

abbrev pub context_key : List Field
context_key = any_name ∷ []

abbrev pub context_rest : List Field
context_rest = []

-- ---- vacmSecurityToGroupTable ("mapping" in document 01): model and name, then group, storage, status

pub record MappingRow : Type 0 where
  pub security_model : ℕ
  pub security_name : List ℕ
  pub group_name : List ℕ
  pub storage_type : ℕ
  pub status : ℕ

abbrev pub mapping_key : List Field
mapping_key = integer quad 1 model_max ∷ some_name ∷ []

abbrev pub mapping_rest : List Field
mapping_rest = some_name ∷ storage ∷ activity ∷ []

-- ---- vacmAccessTable: group, prefix, model, level, then match, three view names, storage, status

pub record AccessRow : Type 0 where
  pub group_name : List ℕ
  pub context_prefix : List ℕ
  pub security_model : ℕ
  pub security_level : ℕ
  pub context_match : ℕ
  pub read_view_name : List ℕ
  pub write_view_name : List ℕ
  pub notify_view_name : List ℕ
  pub storage_type : ℕ
  pub status : ℕ

abbrev pub access_key : List Field
access_key = some_name ∷ any_name ∷ integer quad 0 model_max ∷ integer octet 1 3 ∷ []

abbrev pub access_rest : List Field
access_rest = integer octet 1 2 ∷ any_name ∷ any_name ∷ any_name ∷ storage ∷ activity ∷ []

-- ---- vacmViewTreeFamilyTable ("view"): view name and subtree, then mask, type, storage, status

pub record ViewRow : Type 0 where
  pub view_name : List ℕ
  pub subtree : List ℕ
  pub mask : List ℕ
  pub family_type : ℕ
  pub storage_type : ℕ
  pub status : ℕ

abbrev pub view_key : List Field
view_key = some_name ∷ sequence quad 1 64 ∷ []

abbrev pub view_rest : List Field
view_rest = sequence octet 0 16 ∷ integer octet 1 2 ∷ storage ∷ activity ∷ []

-- ---- the tables' keys, whole rows and limits, by table

unfoldable pub key_fields : Table → List Field
key_fields Context = context_key
key_fields Mapping = mapping_key
key_fields Access = access_key
key_fields View = view_key

-- the fields behind the key
abbrev pub rest_fields : Table → List Field
rest_fields Context = context_rest
rest_fields Mapping = mapping_rest
rest_fields Access = access_rest
rest_fields View = view_rest

unfoldable pub row_fields : Table → List Field
row_fields Context = context_key ++ context_rest
row_fields Mapping = mapping_key ++ mapping_rest
row_fields Access = access_key ++ access_rest
row_fields View = view_key ++ view_rest

abbrev pub fields_of : Shape → Table → List Field
fields_of Row t = row_fields t
fields_of Key t = key_fields t

-- the index of the row or the key that bytes hold: its key fields as sub-identifiers
abbrev pub index_of : Table → List ℕ → List ℕ
index_of t v = index (key_fields t) (values (key_fields t) v)

-- the most rows of a table
abbrev pub limit : Table → ℕ
limit Context = 16
limit Mapping = 64
limit Access = 64
limit View = 96

-- the most bytes of a row, and of a key
abbrev pub row_max : ℕ
row_max = 310

abbrev pub key_max : ℕ
key_max = 290

-- ---- rows as lists of fields, and back

abbrev pub field_at : ℕ → List (List ℕ) → List ℕ
field_at i fs = get_or fs i []

abbrev pub number_at : ℕ → List (List ℕ) → ℕ
number_at i fs = get_or (field_at i fs) 0 0

abbrev pub context_fields : ContextRow → List (List ℕ)
context_fields r = r.context_name ∷ []

abbrev pub context_from : List (List ℕ) → ContextRow
context_from fs = record { context_name = field_at 0 fs }

abbrev pub mapping_fields : MappingRow → List (List ℕ)
mapping_fields r =
    (r.security_model ∷ []) ∷ r.security_name ∷ r.group_name ∷ (r.storage_type ∷ []) ∷ (r.status ∷ []) ∷ []

abbrev pub mapping_from : List (List ℕ) → MappingRow
mapping_from fs = record {
  security_model = number_at 0 fs;
  security_name = field_at 1 fs;
  group_name = field_at 2 fs;
  storage_type = number_at 3 fs;
  status = number_at 4 fs;
}

abbrev pub access_fields : AccessRow → List (List ℕ)
access_fields r =
    r.group_name
    ∷ r.context_prefix
    ∷ (r.security_model ∷ [])
    ∷ (r.security_level ∷ [])
    ∷ (r.context_match ∷ [])
    ∷ r.read_view_name
    ∷ r.write_view_name
    ∷ r.notify_view_name
    ∷ (r.storage_type ∷ [])
    ∷ (r.status ∷ [])
    ∷ []

abbrev pub access_from : List (List ℕ) → AccessRow
access_from fs = record {
  group_name = field_at 0 fs;
  context_prefix = field_at 1 fs;
  security_model = number_at 2 fs;
  security_level = number_at 3 fs;
  context_match = number_at 4 fs;
  read_view_name = field_at 5 fs;
  write_view_name = field_at 6 fs;
  notify_view_name = field_at 7 fs;
  storage_type = number_at 8 fs;
  status = number_at 9 fs;
}

abbrev pub view_fields : ViewRow → List (List ℕ)
view_fields r =
    r.view_name ∷ r.subtree ∷ r.mask ∷ (r.family_type ∷ []) ∷ (r.storage_type ∷ []) ∷ (r.status ∷ []) ∷ []

abbrev pub view_from : List (List ℕ) → ViewRow
view_from fs = record {
  view_name = field_at 0 fs;
  subtree = field_at 1 fs;
  mask = field_at 2 fs;
  family_type = number_at 3 fs;
  storage_type = number_at 4 fs;
  status = number_at 5 fs;
}

-- ---- the row that bytes hold

abbrev pub context_of : List ℕ → ContextRow
context_of v = context_from (values (row_fields Context) v)

abbrev pub mapping_of : List ℕ → MappingRow
mapping_of v = mapping_from (values (row_fields Mapping) v)

abbrev pub access_of : List ℕ → AccessRow
access_of v = access_from (values (row_fields Access) v)

abbrev pub view_of : List ℕ → ViewRow
view_of v = view_from (values (row_fields View) v)
