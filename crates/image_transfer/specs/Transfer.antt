-- Table images read and written (document 01, "The table image"): the image of four tables, and what the two calls promise.
-- Assumes nothing.
use Rattle.std.specs.Prelude.{◌≡◌, cond, List, [], ◌∷◌, ◌++◌, map, ℕ, ◌+◌, ◌≤◌, leb, length, take, drop}
use Rattle.std.proofs.Math.Option.{Option, none, some}
use Rattle.std.specs.Prelude.{Ok, Err}
use Rattle.answers.specs.Numbers.{fault_number, written_number}
use Rattle.answers.specs.declared.Fault.{Fault}
use Rattle.answers.specs.declared.Fault.TheVariants.{NotSound, TooShort}
use Rattle.answers.specs.Types.{Written}
use Rattle.rows.specs.declared.Table.TheVariants.{Context, Mapping, Access, View}
use Rattle.rows.specs.Fields.{row_bytes}
use Rattle.rows.specs.Rows.{ContextRow, MappingRow, AccessRow, ViewRow, row_fields, context_fields, mapping_fields, access_fields, view_fields}
use Rattle.rows.specs.Tables.{Tables}
use Rattle.image_layout.specs.declared.Extent.{Extent}
use Rattle.image_layout.specs.declared.Layout.{Layout}
use Rattle.image_layout.specs.Layout.{extent, end_of, Inside, header}
use Rattle.image.specs.Image.{image_fault}
use Rattle.image_judge.specs.Faults.{tables_in}
use Rattle.image.specs.Store.{held}
use Rattle.image_layout.specs.Written.{pairs_of, concatenated}
use Rattle.image_transfer.specs.Types.{Loaded}

-- ---- the image of four tables

-- a row's bytes: its fields as listed
abbrev pub context_bytes : ContextRow → List ℕ
context_bytes r = row_bytes (row_fields Context) (context_fields r)

abbrev pub mapping_bytes : MappingRow → List ℕ
mapping_bytes r = row_bytes (row_fields Mapping) (mapping_fields r)

abbrev pub access_bytes : AccessRow → List ℕ
access_bytes r = row_bytes (row_fields Access) (access_fields r)

abbrev pub view_bytes : ViewRow → List ℕ
view_bytes r = row_bytes (row_fields View) (view_fields r)

-- the rows' bytes by table
unfoldable pub rows_of : Tables → List (List (List ℕ))
rows_of t =
    map context_bytes t.vacm_context_table
    ∷ map mapping_bytes t.vacm_security_to_group_table
    ∷ map access_bytes t.vacm_access_table
    ∷ map view_bytes t.vacm_view_tree_family_table
    ∷ []

-- the four counts, what stands behind them, the array of row lengths, the parallel array of rows
abbrev pub image_with : List ℕ → Tables → List ℕ
image_with mid t =
    let ts : List (List (List ℕ)) = rows_of t in
    pairs_of (map length ts) ++ (mid ++ (pairs_of (map length (concatenated ts)) ++ concatenated (concatenated ts)))

-- nothing stands behind the counts
abbrev pub middle_of : Tables → List ℕ
middle_of t = []

unfoldable pub image_of : Tables → List ℕ
image_of t = image_with (middle_of t) t

-- new bytes at the front of what was found, and the rest as it was
abbrev pub overlaid : List ℕ → List ℕ → List ℕ
overlaid new found = new ++ drop (length new) found

-- ---- reading

-- document 01's number for each case
abbrev pub loaded_number : Loaded → ℕ
loaded_number (Ok tt) = 0
loaded_number (Err f) = fault_number f

abbrev pub loaded : Option Fault → Loaded
loaded none = (Ok tt)
loaded (some f) = Err f

-- the store afterwards: the image at its front; a refusal leaves it as found
abbrev pub replaced : Option Fault → List ℕ → List ℕ → List ℕ
replaced none image found = overlaid image found
replaced (some f) image found = found

-- the image read into the store `found`, sound or not, which is `after` then
pub record Reads (image found after : List ℕ) (r : Loaded) : Type 0 where
  pub answer_is : r ≡ loaded (image_fault image)
  pub number_is : loaded_number r ≡ loaded_number (loaded (image_fault image))
  pub store_is : after ≡ replaced (image_fault image) image found
  pub rows_are : r ≡ (Ok tt) → held after ≡ some (tables_in image)

-- ---- writing

-- 6 first, then 16
abbrev pub written_of : Option Tables → ℕ → Written
written_of none room = Err NotSound
written_of (some t) room = cond (leb (length (image_of t)) room) (Ok (length (image_of t))) (Err TooShort)

-- the buffer afterwards: the image at its front; a refusal leaves it as found
abbrev pub buffer_of : Option Tables → List ℕ → List ℕ
buffer_of none found = found
buffer_of (some t) found = cond (leb (length (image_of t)) (length found)) (overlaid (image_of t) found) found

-- the image of the tables that a store holds, if it is sound, written into the buffer `found`, which is `after` then
pub record Writes (tables : Option Tables) (found after : List ℕ) (r : Written) : Type 0 where
  pub answer_is : r ≡ written_of tables (length found)
  pub number_is : written_number r ≡ written_number (written_of tables (length found))
  pub buffer_is : after ≡ buffer_of tables found

-- the rows of x can be written: they lie within the store, the buffer has room for them, and all ahead of them is written
pub record Writable (store : List ℕ) (x : Extent) (out : List ℕ) : Type 0 where
  pub inside : Inside store x
  pub end_in : end_of store x ≤ length out
  pub ahead_is : take x.rows out ≡ take x.rows store

-- all rows of a layout as one extent
abbrev pub all_rows : Layout → Extent
all_rows l = extent header l.contexts.rows (l.contexts.count + l.mappings.count + l.accesses.count + l.views.count)
