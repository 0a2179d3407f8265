-- The tables of an image as a list of lists of rows, one behind the other (`tables`): concatenated they are all rows of the image, cut by all
-- its lengths. At any table the list splits into the tables ahead, that table and those behind; its lengths stand behind two bytes for
-- each row ahead, and its bytes behind the bytes of the rows ahead (`Split`). Assumes nothing.
use mathlib.Core.Path.{◌≡◌, refl, sym, ap, ap₂, subst, ◌∙◌}
use mathlib.Core.List.{List, [], ◌∷◌, ◌++◌, map}
use Prim.Native.Nat.{ℕ, zero, suc, ◌+◌, ◌*◌, ◌≤◌, ◌<◌}
use native.Mathlib.Omega.{arith}
use lib.ListN.{length, drop, get_or, length-append, length-drop}
use lib.Seq.{drop-drop}
use Rattle.rows.specs.declared.Table.{Table}
use Rattle.rows.specs.declared.Table.TheVariants.{Context, Mapping, Access, View}
use Rattle.image_layout.specs.declared.Extent.{Extent}
use Rattle.image_layout.specs.declared.Layout.{Layout}
use Rattle.image_layout.specs.Layout.{pairs, total, cut, lengths_in, rows_in, end_of, Inside, header, count, laid_out, layout_of, extent_of, extent}
use Rattle.image_layout.specs.Layout.{row_count, image_end}
use Rattle.image_layout.proofs.Walks.{length_pairs}
use Rattle.image_layout.proofs.Layouts.{pairs-append, total-pairs, laid-within}
use Rattle.table_update.specs.Exchange.{position, table_rows}
use Rattle.table_update.proofs.Written.{concatenated, concatenated-append, total-lengths, cut-append, length_cut, lengths-cut}

-- ---- the rows of an extent

pub length-rows : (w : List ℕ) (x : Extent) → length (rows_in w x) ≡ x.count
length-rows w x = length_cut (lengths_in w x) (drop x.rows w) ∙ length_pairs x.count (drop x.lengths w)

module _ (w : List ℕ) (x : Extent) (h : end_of w x ≤ length w) where
  pub lengths-rows : map length (rows_in w x) ≡ lengths_in w x
  lengths-rows = lengths-cut (lengths_in w x) (drop x.rows w) (omega (arith, length-drop x.rows w))

  pub total-rows : total (lengths_in w x) ≡ length (concatenated (rows_in w x))
  total-rows = ap total (sym lengths-rows) ∙ total-lengths (rows_in w x)

-- ---- extents of these many rows, their lengths from h on, their bytes from f on

abbrev pub extents : List ℕ → List ℕ → ℕ → ℕ → List Extent
extents [] w h f = []
extents (c ∷ cs) w h f = extent h f c ∷ extents cs w (h + 2 * c) (end_of w (extent h f c))

pub lengths-extents : (cs w : List ℕ) (h f : ℕ) → map length (map (rows_in w) (extents cs w h f)) ≡ cs
lengths-extents [] w h f = refl
lengths-extents (c ∷ cs) w h f =
    ap₂ (λ n ns. n ∷ ns) (length-rows w (extent h f c)) (lengths-extents cs w (h + 2 * c) (end_of w (extent h f c)))

pub joined-extents : (cs w : List ℕ) (h f : ℕ) → concatenated (map (rows_in w) (extents cs w h f)) ≡ cut (pairs (total cs) (drop h w)) (drop f w)
joined-extents [] w h f = refl
joined-extents (c ∷ cs) w h f =
    let p = pairs c (drop h w) in
    let n = total cs in
    rw (
      joined-extents cs w (h + 2 * c) (f + total p),
      pairs-append c n (drop h w),
      drop-drop (2 * c) h w,
      cut-append p (pairs n (drop (h + 2 * c) w))
          (drop f w),
      drop-drop (total p) f w,
    )

-- ts are the tables ahead of x, those of x and those behind
pub record Split (w : List ℕ) (h f : ℕ) (ts : List (List (List ℕ))) (x : Extent) (n : ℕ) : Type 0 where
  pub ahead : List (List (List ℕ))
  pub behind : List (List (List ℕ))
  pub tables_are : ts ≡ ahead ++ (rows_in w x ∷ behind)
  pub place_is : length ahead ≡ n
  pub lengths_at : x.lengths ≡ h + 2 * length (concatenated ahead)
  pub rows_at : x.rows ≡ f + length (concatenated (concatenated ahead))

-- one table more ahead
split-next : {w : List ℕ} {ts : List (List (List ℕ))} {x : Extent} {n : ℕ} (h f c : ℕ) → end_of w (extent h f c) ≤ length w
    → Split w (h + 2 * c) (end_of w (extent h f c)) ts x n → Split w h f (rows_in w (extent h f c) ∷ ts) x (suc n)
split-next {w} h f c r s =
    let t = rows_in w (extent h f c) in
    record {
      ahead = t ∷ s.ahead;
      behind = s.behind;
      tables_are = ap (λ ts. t ∷ ts) s.tables_are;
      place_is = ap suc s.place_is;
      lengths_at = omega (arith, s.lengths_at, length-append t (concatenated s.ahead), length-rows w (extent h f c));
      rows_at =
          s.rows_at
          ∙ omega (
            arith,
            total-rows w (extent h f c) r,
            ap length (concatenated-append t (concatenated s.ahead)),
            length-append (concatenated t)
                (concatenated (concatenated s.ahead)),
          );
    }

pub split-extents : (cs w : List ℕ) (h f n : ℕ) → n < length cs → f + total (pairs (total cs) (drop h w)) ≤ length w
    → Split w h f (map (rows_in w) (extents cs w h f)) (get_or (extents cs w h f) n (extent 0 0 0)) n
split-extents [] w h f n k r = absurd (omega arith)
split-extents (c ∷ cs) w h f zero k r = record {
  ahead = [];
  behind = map (rows_in w) (extents cs w (h + 2 * c) (end_of w (extent h f c)));
  tables_are = refl;
  place_is = refl;
  lengths_at = omega arith;
  rows_at = omega arith;
}
split-extents (c ∷ cs) w h f (suc n) k r =
    let q = total-pairs w h c (total cs) in
    split-next h f c (omega (arith, q, r)) (split-extents cs w (h + 2 * c) (end_of w (extent h f c)) n (omega arith) (omega (arith, q, r)))

-- ---- the four tables of an image

abbrev pub counts : List ℕ → List ℕ
counts w = count 0 w ∷ count 1 w ∷ count 2 w ∷ count 3 w ∷ []

abbrev places : Layout → List Extent
places l = l.contexts ∷ l.mappings ∷ l.accesses ∷ l.views ∷ []

abbrev pub tables : List ℕ → List (List (List ℕ))
tables w = map (rows_in w) (places (layout_of w))

pub total-counts : (w : List ℕ) → total (counts w) ≡ row_count w
total-counts w = omega arith

tables-extents : (w : List ℕ) → tables w ≡ map (rows_in w) (extents (counts w) w header (header + 2 * row_count w))
unfolding layout_of laid_out
tables-extents w = refl

pub lengths-tables : (w : List ℕ) → map length (tables w) ≡ counts w
lengths-tables w = ap (map length) (tables-extents w) ∙ lengths-extents (counts w) w header (header + 2 * row_count w)

pub joined-tables : (w : List ℕ) → concatenated (tables w) ≡ cut (pairs (row_count w) (drop header w)) (drop (header + 2 * row_count w) w)
joined-tables w =
    ap concatenated (tables-extents w) ∙ joined-extents (counts w) w header (header + 2 * row_count w)
    ∙ ap (λ n. cut (pairs n (drop header w)) (drop (header + 2 * row_count w) w)) (total-counts w)

-- by position
pub table_at : (t : Table) (w : List ℕ) → table_rows t w ≡ get_or (tables w) (position t) []
table_at Context w = refl
table_at Mapping w = refl
table_at Access w = refl
table_at View w = refl

place_at : (t : Table) (l : Layout) → get_or (places l) (position t) (extent 0 0 0) ≡ extent_of t l
place_at Context l = refl
place_at Mapping l = refl
place_at Access l = refl
place_at View l = refl

pub position-below : (t : Table) → position t < 4
position-below Context = omega arith
position-below Mapping = omega arith
position-below Access = omega arith
position-below View = omega arith

pub split-table : (t : Table) (w : List ℕ) → image_end w ≤ length w → Split w header (header + 2 * row_count w) (tables w) (extent_of t (layout_of w)) (position t)
unfolding layout_of laid_out
split-table t w h =
    subst (λ x. Split w header (header + 2 * row_count w) (tables w) x (position t)) (place_at t (layout_of w))
    (split-extents (counts w) w header (header + 2 * row_count w) (position t) (position-below t) (rw (total-counts w) h))

pub table-inside : (t : Table) (w : List ℕ) → image_end w ≤ length w → Inside w (extent_of t (layout_of w))
unfolding layout_of
table-inside Context w h = (laid-within w (count 0 w) (count 1 w) (count 2 w) (count 3 w) h).contexts_in
table-inside Mapping w h = (laid-within w (count 0 w) (count 1 w) (count 2 w) (count 3 w) h).mappings_in
table-inside Access w h = (laid-within w (count 0 w) (count 1 w) (count 2 w) (count 3 w) h).accesses_in
table-inside View w h = (laid-within w (count 0 w) (count 1 w) (count 2 w) (count 3 w) h).views_in
