-- The four tables. Assumes nothing.
use Rattle.std.specs.Prelude.{List, []}
use Rattle.rows.specs.Rows

-- RFC 3415's names
pub record Tables : Type 0 where
  pub vacm_context_table : List Rows.ContextRow
  pub vacm_security_to_group_table : List Rows.MappingRow
  pub vacm_access_table : List Rows.AccessRow
  pub vacm_view_tree_family_table : List Rows.ViewRow

-- a fresh store has no rows
abbrev pub no_rows : Tables
no_rows = record { vacm_context_table = []; vacm_security_to_group_table = []; vacm_access_table = []; vacm_view_tree_family_table = [] }
