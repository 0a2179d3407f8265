-- Where the rows of a table image lie (document 01, "The table image"): a header, which begins with four 2-byte counts, an array of
-- 2-byte row lengths, the rows.
-- Assumes nothing.
use Rattle.std.specs.Prelude.{List, [], ◌∷◌, Bool, ◌&&◌, ℕ, zero, suc, ◌+◌, ◌-◌, ◌*◌, ◌≤◌, leb, length, take, drop, get_or}
use Rattle.rows.specs.declared.Table.{Table}
use Rattle.rows.specs.declared.Table.TheVariants.{Context, Mapping, Access, View}
use Rattle.rows.specs.Rows.{limit}
use Rattle.image_layout.specs.declared.Extent.{Extent}
use Rattle.image_layout.specs.declared.Layout.{Layout}

-- the number that two bytes say, big-endian; n such numbers; their sum
abbrev pub pair : List ℕ → ℕ
pair v = get_or v 0 0 * 256 + get_or v 1 0

abbrev pub pairs : ℕ → List ℕ → List ℕ
pairs zero v = []
pairs (suc n) v = pair v ∷ pairs n (drop 2 v)

abbrev pub total : List ℕ → ℕ
total [] = 0
total (l ∷ ls) = l + total ls

-- bytes cut into rows of these lengths
abbrev pub cut : List ℕ → List ℕ → List (List ℕ)
cut [] v = []
cut (l ∷ ls) v = take l v ∷ cut ls (drop l v)

-- the extent of n rows whose lengths stand from g on, and whose bytes from o on
abbrev pub extent : ℕ → ℕ → ℕ → Extent
extent g o n = record { lengths = g; rows = o; count = n }

-- the lengths of an extent's rows, and the rows
abbrev pub lengths_in : List ℕ → Extent → List ℕ
lengths_in w x = pairs x.count (drop x.lengths w)

abbrev pub rows_in : List ℕ → Extent → List (List ℕ)
rows_in w x = cut (lengths_in w x) (drop x.rows w)

-- where the rows of an extent end
abbrev pub end_of : List ℕ → Extent → ℕ
end_of w x = x.rows + total (lengths_in w x)

-- an extent lies within w
pub record Inside (w : List ℕ) (x : Extent) : Type 0 where
  pub lengths_within : x.lengths + 2 * x.count ≤ length w
  pub rows_within : end_of w x ≤ length w

-- the extent that follows another, of n rows
abbrev pub following : List ℕ → Extent → ℕ → Extent
following w x n = extent (x.lengths + 2 * x.count) (end_of w x) n

-- the four counts; the header, which is these alone; what stands in it behind the counts
abbrev pub counts_size : ℕ
counts_size = 8

abbrev pub header : ℕ
header = counts_size

abbrev pub middle : List ℕ → List ℕ
middle w = take (header - counts_size) (drop counts_size w)

-- the layout of c, m, a and v rows
unfoldable pub laid_out : List ℕ → ℕ → ℕ → ℕ → ℕ → Layout
laid_out w c m a v =
    let x : Extent = extent header (header + 2 * (c + m + a + v)) c in
    let y : Extent = following w x m in
    let z : Extent = following w y a in
    record { contexts = x; mappings = y; accesses = z; views = following w z v }

-- where a table lies in a layout
abbrev pub extent_of : Table → Layout → Extent
extent_of Context l = l.contexts
extent_of Mapping l = l.mappings
extent_of Access l = l.accesses
extent_of View l = l.views

-- the i-th count
abbrev pub count : ℕ → List ℕ → ℕ
count i w = pair (drop (2 * i) w)

unfoldable pub layout_of : List ℕ → Layout
layout_of w = laid_out w (count 0 w) (count 1 w) (count 2 w) (count 3 w)

-- how many bytes an image of n rows takes, by its lengths
abbrev pub image_length : ℕ → List ℕ → ℕ
image_length n w = header + 2 * n + total (pairs n (drop header w))

-- how many rows the image at the front of w has, and where it ends
abbrev pub row_count : List ℕ → ℕ
row_count w = count 0 w + count 1 w + count 2 w + count 3 w

abbrev pub image_end : List ℕ → ℕ
image_end w = image_length (row_count w) w

-- the counts within document 01's limits, and how many rows that makes at most
abbrev pub within_limits : ℕ → ℕ → ℕ → ℕ → Bool
within_limits c m a v = leb c (limit Context) && leb m (limit Mapping) && leb a (limit Access) && leb v (limit View)

abbrev pub most_rows : ℕ
most_rows = limit Context + limit Mapping + limit Access + limit View

-- the most that two bytes say; no slice has more bytes than the last
abbrev pub most_pair : ℕ
most_pair = 65535

abbrev pub longest_slice : ℕ
longest_slice = 9223372036854775807
