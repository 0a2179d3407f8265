-- Document 01's examples P11 and P12: tables, and the bytes of their image. What holds of them is stated where images are read and written.
-- Assumes nothing.
use Rattle.std.specs.Prelude.{List, [], ◌∷◌, ℕ}
use Rattle.rows.specs.Tables.{Tables}

-- P11: a fresh image, of no rows
abbrev pub p11 : List ℕ
p11 = 0 ∷ 0 ∷ 0 ∷ 0 ∷ 0 ∷ 0 ∷ 0 ∷ 0 ∷ []

-- P12: one empty context
abbrev pub empty_context : Tables
empty_context = record {
  vacm_context_table = record { context_name = [] } ∷ [];
  vacm_security_to_group_table = [];
  vacm_access_table = [];
  vacm_view_tree_family_table = [];
}

abbrev pub p12 : List ℕ
p12 = 0 ∷ 1 ∷ 0 ∷ 0 ∷ 0 ∷ 0 ∷ 0 ∷ 0 ∷ 0 ∷ 1 ∷ 0 ∷ []
