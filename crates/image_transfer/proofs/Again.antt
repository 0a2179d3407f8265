-- The image of the tables that bytes hold is these bytes again. A row's bytes are made again of the fields that they hold, so that the
-- rows of the typed tables, written, are the rows in the bytes (`rows-again`); and an image is what is written of its rows, with what
-- stands behind its counts. That this is what its tables say stands there is one law (`middle-again`); the others hold for any such bytes.
-- Assumes nothing.
use mathlib.Core.Path.{◌≡◌, refl, sym, ap, ap₂, ◌∙◌}
use mathlib.Core.List.{List, [], ◌∷◌, ◌++◌, map, append_assoc}
use mathlib.Core.Option.{none}
use Prim.Native.Nat.{ℕ, ◌≤◌}
use native.Mathlib.Omega.{arith}
use lib.ListN.{length, take, drop, length-append, length-drop}
use lib.Seq.{take_at}
use Rattle.rows.specs.declared.Table.{Table}
use Rattle.rows.specs.declared.Table.TheVariants.{Context, Mapping, Access, View}
use Rattle.rows.specs.Fields.{faults, row_bytes}
use Rattle.rows.specs.Rows.{row_fields, context_of, mapping_of, access_of, view_of}
use Rattle.numbers.specs.BigEndian.{Octets}
use Rattle.rows.proofs.Inverse.{bytes-again}
use Rattle.rows.proofs.Typed.{context-fields, mapping-fields, access-fields, view_fields_lem}
use Rattle.image_layout.specs.Layout.{header, middle, layout_of, extent_of, image_end}
use Rattle.image_judge.specs.Faults.{table_fault, tables_at, tables_in}
use Rattle.image_layout.specs.Written.{concatenated, heads}
use Rattle.table_update.specs.Exchange.{table_rows}
use Rattle.table_update.proofs.Keys.{Whole, whole-rows}
use Rattle.table_update.proofs.Splits.{tables}
use Rattle.table_update.proofs.Images.{image, image-written}
use Rattle.image_transfer.specs.Transfer.{context_bytes, mapping_bytes, access_bytes, view_bytes, rows_of, image_with, middle_of, image_of}

-- ---- rows

-- one row
module _ (v : List ℕ) (b : Octets v) where
  context-again : faults (row_fields Context) v ≡ none → context_bytes (context_of v) ≡ v
  context-again h = ap (row_bytes (row_fields Context)) (context-fields v) ∙ bytes-again (row_fields Context) v b h

  mapping-again : faults (row_fields Mapping) v ≡ none → mapping_bytes (mapping_of v) ≡ v
  mapping-again h = ap (row_bytes (row_fields Mapping)) (mapping-fields v) ∙ bytes-again (row_fields Mapping) v b h

  access-again : faults (row_fields Access) v ≡ none → access_bytes (access_of v) ≡ v
  access-again h = ap (row_bytes (row_fields Access)) (access-fields v) ∙ bytes-again (row_fields Access) v b h

  view-again : faults (row_fields View) v ≡ none → view_bytes (view_of v) ≡ v
  view-again h = ap (row_bytes (row_fields View)) (view_fields_lem v) ∙ bytes-again (row_fields View) v b h

-- the rows of a table
table-again : {R : Type 0} (t : Table) (of : List ℕ → R) (bytes : R → List ℕ) → ((v : List ℕ) → Octets v → faults (row_fields t) v ≡ none → bytes (of v) ≡ v)
    → (rs : List (List ℕ)) → Whole t rs → map bytes (map of rs) ≡ rs
table-again t of bytes again [] a = refl
table-again t of bytes again (r ∷ rs) a = ap₂ (λ x xs. x ∷ xs) (again r a.0 a.1) (table-again t of bytes again rs a.2)

-- ---- the image

-- its parts, with what lies behind it
pub image-rest : (ts : List (List (List ℕ))) (mid rest : List ℕ)
    → (heads ts ++ (mid ++ (heads (concatenated ts) ++ concatenated (concatenated ts)))) ++ rest ≡ image ts mid rest
image-rest ts mid rest = simp append_assoc

-- what stands behind the counts of w is what its tables have there
pub middle-again : (w : List ℕ) → Octets w → header ≤ length w → middle_of (tables_in w) ≡ middle w
middle-again w b h = refl

module _ (w : List ℕ) (b : Octets w) (s : (t : Table) → table_fault t [] (table_rows t w) ≡ none) where
  whole : (t : Table) → Whole t (table_rows t w)
  whole t = whole-rows t w (extent_of t (layout_of w)) b (s t)

  rows-again : rows_of (tables_in w) ≡ tables w
  unfolding rows_of tables_at
  rows-again =
      ap₂ (λ x xs. x ∷ xs) (table-again Context context_of context_bytes context-again (table_rows Context w) (whole Context))
      (ap₂ (λ x xs. x ∷ xs) (table-again Mapping mapping_of mapping_bytes mapping-again (table_rows Mapping w) (whole Mapping))
      (ap₂ (λ x xs. x ∷ xs) (table-again Access access_of access_bytes access-again (table_rows Access w) (whole Access))
      (ap (λ x. x ∷ []) (table-again View view_of view_bytes view-again (table_rows View w) (whole View)))))

  pub image-again : (mid rest : List ℕ) → image_with mid (tables_in w) ++ rest ≡ image (tables w) mid rest
  image-again mid rest = rw rows-again (image-rest (tables w) mid rest)

  module _ (h : image_end w ≤ length w) where
    pub front-with : w ≡ image_with (middle w) (tables_in w) ++ drop (image_end w) w
    front-with = image-written w b h ∙ sym (image-again (middle w) (drop (image_end w) w))

    pub with-middle : image_with (middle w) (tables_in w) ≡ image_of (tables_in w)
    unfolding image_of
    with-middle = ap (λ m. image_with m (tables_in w)) (sym (middle-again w b (omega arith)))

    front-again : w ≡ image_of (tables_in w) ++ drop (image_end w) w
    front-again = front-with ∙ ap (λ v. v ++ drop (image_end w) w) with-middle

    pub length-again : length (image_of (tables_in w)) ≡ image_end w
    length-again =
        let e = ap length front-again ∙ length-append (image_of (tables_in w)) (drop (image_end w) w) in
        omega (arith, length-drop (image_end w) w)

    pub take_again : take (image_end w) w ≡ image_of (tables_in w)
    take_again = ap (take (image_end w)) front-again ∙ take_at (image_of (tables_in w)) (drop (image_end w) w) (image_end w) length-again
