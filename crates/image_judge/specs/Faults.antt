-- What is wrong with the rows of a table image, if anything is, and the tables that they hold (document 01, "Where each number is met").
-- Assumes nothing.
use Rattle.std.specs.Prelude.{◌≡◌, cond, List, [], ◌∷◌, map, ℕ}
use Rattle.std.proofs.Math.Option.{Option, none, some}
use Rattle.std.specs.Prelude.{Ok, Err}
use Rattle.answers.specs.declared.Fault.{Fault}
use Rattle.answers.specs.declared.Fault.TheVariants.{NotAscending}
use Rattle.numbers.specs.Order.{before}
use Rattle.rows.specs.declared.Table.{Table}
use Rattle.rows.specs.declared.Table.TheVariants.{Context, Mapping, Access, View}
use Rattle.rows.specs.Fields.{faults, or_else}
use Rattle.rows.specs.Rows.{row_fields, index_of, context_of, mapping_of, access_of, view_of}
use Rattle.rows.specs.Tables.{Tables}
use Rattle.image_layout.specs.declared.Extent.{Extent}
use Rattle.image_layout.specs.declared.Layout.{Layout}
use Rattle.image_layout.specs.Layout.{Inside, rows_in, layout_of}
use Rattle.image_judge.specs.Types.{Surveyed}

-- rows of one table, one after the other: each whole and legal, its index above that of the row before it
unfoldable pub table_fault : Table → List ℕ → List (List ℕ) → Option Fault
table_fault t prev [] = none
table_fault t prev (r ∷ rs) =
    or_else (faults (row_fields t) r) (cond (before prev (index_of t r)) (table_fault t (index_of t r) rs) (some NotAscending))

-- the rows of all tables; no index is above none, [], so that a table's first row may have any
unfoldable pub rows_fault : List ℕ → Layout → Option Fault
rows_fault w l =
    or_else (table_fault Context [] (rows_in w l.contexts))
    (or_else (table_fault Mapping [] (rows_in w l.mappings))
    (or_else (table_fault Access [] (rows_in w l.accesses)) (table_fault View [] (rows_in w l.views))))

-- the tables that lie so in w
unfoldable pub tables_at : List ℕ → Layout → Tables
tables_at w l = record {
  vacm_context_table = map context_of (rows_in w l.contexts);
  vacm_security_to_group_table = map mapping_of (rows_in w l.mappings);
  vacm_access_table = map access_of (rows_in w l.accesses);
  vacm_view_tree_family_table = map view_of (rows_in w l.views);
}

-- the tables of the image at the front of w
abbrev pub tables_in : List ℕ → Tables
tables_in w = tables_at w (layout_of w)

-- a table that lies within w, nothing wrong with its rows
pub record SoundTable (t : Table) (w : List ℕ) (x : Extent) : Type 0 where
  pub inside : Inside w x
  pub rows_sound : table_fault t [] (rows_in w x) ≡ none

pub record SoundLayout (w : List ℕ) (l : Layout) : Type 0 where
  pub contexts_sound : SoundTable Context w l.contexts
  pub mappings_sound : SoundTable Mapping w l.mappings
  pub accesses_sound : SoundTable Access w l.accesses
  pub views_sound : SoundTable View w l.views

-- where the tables lie, if nothing is wrong
abbrev pub surveyed : Option Fault → Layout → Surveyed
surveyed none l = Ok l
surveyed (some f) l = Err f
