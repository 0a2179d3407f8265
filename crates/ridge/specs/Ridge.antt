-- Document 01's Ridge tables, as rows and as the bytes of their image. Row B's write and notify views are empty, and every storage is 3.
-- Assumes nothing.
use Rattle.std.specs.Prelude.{◌≡◌, List, [], ◌∷◌, ℕ}
use Rattle.std.proofs.Math.Option.{none}
use Rattle.rows.specs.Rows.{MappingRow, AccessRow, ViewRow}
use Rattle.rows.specs.Tables.{Tables}
use Rattle.image_judge.specs.Faults.{tables_in}
use Rattle.image.specs.Image.{image_fault}

-- ---- names

abbrev pub ann : List ℕ
ann = 97 ∷ 110 ∷ 110 ∷ []

abbrev pub bob : List ℕ
bob = 98 ∷ 111 ∷ 98 ∷ []

abbrev pub cal : List ℕ
cal = 99 ∷ 97 ∷ 108 ∷ []

abbrev pub leads : List ℕ
leads = 108 ∷ 101 ∷ 97 ∷ 100 ∷ 115 ∷ []

abbrev pub train : List ℕ
train = 116 ∷ 114 ∷ 97 ∷ 105 ∷ 110 ∷ []

abbrev pub ridge : List ℕ
ridge = 114 ∷ 105 ∷ 100 ∷ 103 ∷ 101 ∷ []

abbrev pub ridge1 : List ℕ
ridge1 = 114 ∷ 105 ∷ 100 ∷ 103 ∷ 101 ∷ 49 ∷ []

abbrev pub all : List ℕ
all = 97 ∷ 108 ∷ 108 ∷ []

abbrev pub base : List ℕ
base = 98 ∷ 97 ∷ 115 ∷ 101 ∷ []

abbrev pub gone : List ℕ
gone = 103 ∷ 111 ∷ 110 ∷ 101 ∷ []

-- ---- rows

abbrev mapping_row : (name group : List ℕ) → MappingRow
mapping_row name group = record { security_model = 3; security_name = name; group_name = group; storage_type = 3; status = 1 }

abbrev pub row_ann : MappingRow
row_ann = mapping_row ann leads

abbrev pub row_cal : MappingRow
row_cal = mapping_row cal train

abbrev pub row_a : AccessRow
row_a = record {
  group_name = leads;
  context_prefix = [];
  security_model = 0;
  security_level = 1;
  context_match = 2;
  read_view_name = all;
  write_view_name = [];
  notify_view_name = gone;
  storage_type = 3;
  status = 1;
}

abbrev pub row_b : AccessRow
row_b = record {
  group_name = leads;
  context_prefix = ridge;
  security_model = 3;
  security_level = 2;
  context_match = 2;
  read_view_name = base;
  write_view_name = [];
  notify_view_name = [];
  storage_type = 3;
  status = 1;
}

abbrev view_row : (name subtree mask : List ℕ) → ℕ → ViewRow
view_row name subtree mask type = record {
  view_name = name;
  subtree = subtree;
  mask = mask;
  family_type = type;
  storage_type = 3;
  status = 1;
}

abbrev pub row_all : ViewRow
row_all = view_row all (1 ∷ 3 ∷ 6 ∷ 1 ∷ []) [] 1

-- the rows of "base"
abbrev pub row_included : ViewRow
row_included = view_row base (1 ∷ 3 ∷ 6 ∷ 1 ∷ 2 ∷ 1 ∷ 2 ∷ 2 ∷ 1 ∷ 0 ∷ 2 ∷ []) (255 ∷ 160 ∷ []) 1

abbrev pub row_excluded : ViewRow
row_excluded = view_row base (1 ∷ 3 ∷ 6 ∷ 1 ∷ 2 ∷ 1 ∷ 2 ∷ 2 ∷ 1 ∷ 7 ∷ 0 ∷ []) (255 ∷ 192 ∷ []) 2

abbrev pub ridge_tables : Tables
ridge_tables = record {
  vacm_context_table = record { context_name = [] } ∷ record { context_name = ridge1 } ∷ [];
  vacm_security_to_group_table = row_ann ∷ row_cal ∷ [];
  vacm_access_table = row_a ∷ row_b ∷ [];
  vacm_view_tree_family_table = row_all ∷ row_included ∷ row_excluded ∷ [];
}

-- ---- bytes: the image that ships, examples/ridge/tables.bin

abbrev pub ridge_image : List ℕ
ridge_image =
    0 ∷ 2 ∷ 0 ∷ 2 ∷ 0 ∷ 2 ∷ 0 ∷ 3 ∷ 0 ∷ 1 ∷ 0 ∷ 7 ∷ 0 ∷ 16 ∷ 0 ∷ 16 ∷ 0 ∷ 25 ∷ 0 ∷ 27 ∷ 0 ∷ 25 ∷ 0 ∷ 56 ∷ 0
    ∷ 56 ∷ 0 ∷ 6 ∷ 114 ∷ 105 ∷ 100 ∷ 103 ∷ 101 ∷ 49 ∷ 0 ∷ 0 ∷ 0 ∷ 3 ∷ 3 ∷ 97 ∷ 110 ∷ 110 ∷ 5 ∷ 108 ∷ 101 ∷ 97
    ∷ 100 ∷ 115 ∷ 3 ∷ 1 ∷ 0 ∷ 0 ∷ 0 ∷ 3 ∷ 3 ∷ 99 ∷ 97 ∷ 108 ∷ 5 ∷ 116 ∷ 114 ∷ 97 ∷ 105 ∷ 110 ∷ 3 ∷ 1 ∷ 5
    ∷ 108 ∷ 101 ∷ 97 ∷ 100 ∷ 115 ∷ 0 ∷ 0 ∷ 0 ∷ 0 ∷ 0 ∷ 1 ∷ 2 ∷ 3 ∷ 97 ∷ 108 ∷ 108 ∷ 0 ∷ 4 ∷ 103 ∷ 111 ∷ 110
    ∷ 101 ∷ 3 ∷ 1 ∷ 5 ∷ 108 ∷ 101 ∷ 97 ∷ 100 ∷ 115 ∷ 5 ∷ 114 ∷ 105 ∷ 100 ∷ 103 ∷ 101 ∷ 0 ∷ 0 ∷ 0 ∷ 3 ∷ 2 ∷ 2
    ∷ 4 ∷ 98 ∷ 97 ∷ 115 ∷ 101 ∷ 0 ∷ 0 ∷ 3 ∷ 1 ∷ 3 ∷ 97 ∷ 108 ∷ 108 ∷ 4 ∷ 0 ∷ 0 ∷ 0 ∷ 1 ∷ 0 ∷ 0 ∷ 0 ∷ 3 ∷ 0
    ∷ 0 ∷ 0 ∷ 6 ∷ 0 ∷ 0 ∷ 0 ∷ 1 ∷ 0 ∷ 1 ∷ 3 ∷ 1 ∷ 4 ∷ 98 ∷ 97 ∷ 115 ∷ 101 ∷ 11 ∷ 0 ∷ 0 ∷ 0 ∷ 1 ∷ 0 ∷ 0 ∷ 0
    ∷ 3 ∷ 0 ∷ 0 ∷ 0 ∷ 6 ∷ 0 ∷ 0 ∷ 0 ∷ 1 ∷ 0 ∷ 0 ∷ 0 ∷ 2 ∷ 0 ∷ 0 ∷ 0 ∷ 1 ∷ 0 ∷ 0 ∷ 0 ∷ 2 ∷ 0 ∷ 0 ∷ 0 ∷ 2 ∷ 0
    ∷ 0 ∷ 0 ∷ 1 ∷ 0 ∷ 0 ∷ 0 ∷ 0 ∷ 0 ∷ 0 ∷ 0 ∷ 2 ∷ 2 ∷ 255 ∷ 160 ∷ 1 ∷ 3 ∷ 1 ∷ 4 ∷ 98 ∷ 97 ∷ 115 ∷ 101 ∷ 11
    ∷ 0 ∷ 0 ∷ 0 ∷ 1 ∷ 0 ∷ 0 ∷ 0 ∷ 3 ∷ 0 ∷ 0 ∷ 0 ∷ 6 ∷ 0 ∷ 0 ∷ 0 ∷ 1 ∷ 0 ∷ 0 ∷ 0 ∷ 2 ∷ 0 ∷ 0 ∷ 0 ∷ 1 ∷ 0 ∷ 0
    ∷ 0 ∷ 2 ∷ 0 ∷ 0 ∷ 0 ∷ 2 ∷ 0 ∷ 0 ∷ 0 ∷ 1 ∷ 0 ∷ 0 ∷ 0 ∷ 7 ∷ 0 ∷ 0 ∷ 0 ∷ 0 ∷ 2 ∷ 255 ∷ 192 ∷ 2 ∷ 3 ∷ 1 ∷ []

-- nothing is wrong with it, and it holds those tables (proved in proofs/Ridge.antt)
pub record RidgeImageHolds : Type 0 where
  pub sound : image_fault ridge_image ≡ none
  pub tables_are : tables_in ridge_image ≡ ridge_tables
