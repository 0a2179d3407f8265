-- A row of a table found by its key and exchanged, in the bytes of an image. Assumes nothing.
use Rattle.std.specs.Prelude.{◌≡◌, Bool, true, false, cond, List, [], ◌∷◌, ◌++◌, ℕ, suc, ◌+◌, ◌-◌, ◌*◌, ◌≤◌, eqb, length, take, drop, get_or}
use Rattle.numbers.specs.Lists.{every}
use Rattle.numbers.specs.Order.{same, before}
use Rattle.rows.specs.declared.Table.{Table}
use Rattle.rows.specs.declared.Table.TheVariants.{Context, Mapping, Access, View}
use Rattle.image_layout.specs.declared.Extent.{Extent}
use Rattle.image_layout.specs.Layout.{total, lengths_in, rows_in, end_of, middle, layout_of, extent_of, row_count, image_end, most_rows, most_pair}
use Rattle.table_update.specs.declared.Place.{Place}

-- a table's place among the tables of an image, and the low octet of its count
abbrev pub position : Table → ℕ
position Context = 0
position Mapping = 1
position Access = 2
position View = 3

abbrev pub count_at : Table → ℕ
count_at t = 2 * position t + 1

-- its rows in the image at the front of w
abbrev pub table_rows : Table → List ℕ → List (List ℕ)
table_rows t w = rows_in w (extent_of t (layout_of w))

-- how many rows: one where a test holds
abbrev pub one_if : Bool → ℕ
one_if true = 1
one_if false = 0

-- ---- seeking

-- the bytes of a row that stand where a key of this length would
abbrev pub front : List ℕ → List ℕ → List ℕ
front key row = take (length key) row

-- how many rows stand before the key; whether the next has it
unfoldable pub rows_before : List ℕ → List (List ℕ) → ℕ
rows_before key [] = 0
rows_before key (r ∷ rs) = cond (before (front key r) key) (suc (rows_before key rs)) 0

unfoldable pub is_held : List ℕ → List (List ℕ) → Bool
is_held key [] = false
is_held key (r ∷ rs) = cond (before (front key r) key) (is_held key rs) (same (front key r) key)

-- rows ascend, as a key sees them: behind one that does not stand before it, all stand above it
abbrev pub Rising : List ℕ → List (List ℕ) → Type 0
Rising key [] = Unit {0}
Rising key (r ∷ rs) = (before (front key r) key ≡ false → every (λ s. before key (front key s)) rs ≡ true) × Rising key rs

-- a place among the rows of an extent
pub record PlaceIn (w : List ℕ) (x : Extent) (p : Place) : Type 0 where
  pub row_in : p.row + one_if p.present ≤ x.count
  pub from_is : p.from + total (drop p.row (lengths_in w x)) ≡ end_of w x
  pub end_is : p.end ≡ p.from + cond p.present (get_or (lengths_in w x) p.row 0) 0

-- the place of a key: which row it is or would be
pub record Sought (w : List ℕ) (x : Extent) (key : List ℕ) (p : Place) : Type 0 where
  pub place_in : PlaceIn w x p
  pub row_is : p.row ≡ rows_before key (rows_in w x)
  pub present_is : p.present ≡ is_held key (rows_in w x)

-- ---- exchanging

-- few enough rows, all of them within w, and the end
pub record ImageIn (w : List ℕ) (end : ℕ) : Type 0 where
  pub few : row_count w ≤ most_rows
  pub end_is : end ≡ image_end w
  pub end_in : end ≤ length w

-- a place in table t of an image that ends at `end`
pub record TablePlace (t : Table) (w : List ℕ) (x : Extent) (p : Place) (end : ℕ) : Type 0 where
  pub image_in : ImageIn w end
  pub extent_is : x ≡ extent_of t (layout_of w)
  pub place_in : PlaceIn w x p

-- room for a row there: two bytes say its length, and with it in the place of the row held, if any, the image ends within w
pub record RoomFor (w : List ℕ) (p : Place) (end : ℕ) (row : List ℕ) : Type 0 where
  pub length_said : length row ≤ most_pair
  pub row_fits : end + length row + 2 ≤ length w + (p.end - p.from) + 2 * one_if p.present

-- the `gone` elements from place i on give way to others
abbrev pub exchanged : {A : Type 0} → ℕ → ℕ → List A → List A → List A
exchanged i gone new xs = take i xs ++ (new ++ drop (i + gone) xs)

-- a row as the rows that come in its place: none where it has no bytes
abbrev pub one_row : List ℕ → List (List ℕ)
one_row [] = []
one_row (x ∷ row) = (x ∷ row) ∷ []

-- the rows of table u where those of table t are exchanged: of another table they stay
abbrev pub exchanged_in : Table → Table → ℕ → ℕ → List (List ℕ) → List (List ℕ) → List (List ℕ)
exchanged_in t u i gone new rs = cond (eqb (position t) (position u)) (exchanged i gone new rs) rs

-- what stands behind the counts stays, and the image still lies within bytes that are as many as before
pub record Exchanges (t : Table) (i gone : ℕ) (new : List (List ℕ)) (found after : List ℕ) : Type 0 where
  pub rows_are : (u : Table) → table_rows u after ≡ exchanged_in t u i gone new (table_rows u found)
  pub middle_is : middle after ≡ middle found
  pub size_is : length after ≡ length found
  pub end_in : image_end after ≤ length after
