-- An image is what is written of its tables: how many rows each has, all rows' lengths, all rows' bytes, and between the first and the
-- second what else its header has (`image`). What lies at the front of w, if all of it is there, is the image of its tables; and the tables
-- of an image are those it was written of, whatever stands behind its counts and lies behind it. Assumes nothing.
use mathlib.Core.Path.{◌≡◌, sym, ap, ap₂, ◌∙◌}
use mathlib.Core.List.{List, ◌++◌, map, append_assoc}
use Prim.Native.Nat.{ℕ, ◌+◌, ◌-◌, ◌*◌, ◌≤◌}
use native.Mathlib.Omega.{arith}
use lib.ListN.{length, take, drop, length-append, length-drop, take-append-drop}
use lib.Seq.{take-add, take_at, drop_at, drop-drop, length-take-le}
use Rattle.numbers.specs.BigEndian.{Octets}
use Rattle.numbers.proofs.BigEndian.{octets-drop}
use Rattle.image_layout.specs.Layout.{pairs, total, cut, counts_size, header, middle, row_count, image_end}
use Rattle.table_update.proofs.Written.{concatenated, concatenated-inj, pairs_of, pairs_of-pairs, heads, length-heads, pairs-heads, total-lengths}
use Rattle.table_update.proofs.Written.{cut-joined, lengths-cut, joined-cut}
use Rattle.table_update.proofs.Splits.{counts, tables, total-counts, lengths-tables, joined-tables}
use Rattle.table_update.proofs.Swaps.{laid}

-- the tables, what stands behind their counts, what lies behind their rows
abbrev pub image : List (List (List ℕ)) → List ℕ → List ℕ → List ℕ
image ts mid rest = laid (heads ts ++ mid) (concatenated ts) rest

-- a header that is there has so many bytes behind the counts
pub length-middle : (w : List ℕ) → header ≤ length w → counts_size + length (middle w) ≡ header
length-middle w h =
    omega (arith, length-take-le (header - counts_size) (drop counts_size w) (omega (arith, length-drop counts_size w)))

-- the header of an image, written
pub length_front : (ts : List (List (List ℕ))) (mid : List ℕ) → length ts ≡ 4 → counts_size + length mid ≡ header → length (heads ts ++ mid) ≡ header
length_front ts mid four size = omega (arith, length-append (heads ts) mid, length-heads ts)

-- a list from a on: its next b, and the others
peel : (w : List ℕ) (a b : ℕ) → drop a w ≡ take b (drop a w) ++ drop (a + b) w
peel w a b = sym (take-append-drop b (drop a w)) ∙ ap (λ l. take b (drop a w) ++ l) (drop-drop b a w)

counts-pairs : (w : List ℕ) → pairs 4 w ≡ counts w
counts-pairs w = rw (drop-drop 2 2 w, drop-drop 2 4 w)

-- ---- read, then written

abbrev lengths : List ℕ → List ℕ
lengths w = pairs (row_count w) (drop header w)

module _ (w : List ℕ) (h : image_end w ≤ length w) where
  rows-there : total (lengths w) ≤ length (drop (header + 2 * row_count w) w)
  rows-there = omega (arith, length-drop (header + 2 * row_count w) w)

  lengths-are : map length (concatenated (tables w)) ≡ lengths w
  lengths-are = ap (map length) (joined-tables w) ∙ lengths-cut (lengths w) (drop (header + 2 * row_count w) w) rows-there

  pub tables_end : image_end w ≡ header + 2 * row_count w + length (concatenated (concatenated (tables w)))
  tables_end = ap (λ n. header + 2 * row_count w + n) (sym (ap total lengths-are) ∙ total-lengths (concatenated (tables w)))

pub tables-count : (w : List ℕ) → row_count w ≡ length (concatenated (tables w))
tables-count w = sym (total-counts w) ∙ ap total (sym (lengths-tables w)) ∙ total-lengths (tables w)

module _ (w : List ℕ) (b : Octets w) (h : image_end w ≤ length w) where
  counts-written : heads (tables w) ≡ take counts_size w
  counts-written = ap pairs_of (lengths-tables w ∙ sym (counts-pairs w)) ∙ pairs_of-pairs 4 w b (omega arith)

  front-written : heads (tables w) ++ middle w ≡ take header w
  front-written = ap (λ l. l ++ middle w) counts-written ∙ sym (take-add counts_size (header - counts_size) w)

  lengths-written : heads (concatenated (tables w)) ≡ take (2 * row_count w) (drop header w)
  lengths-written =
      ap pairs_of (lengths-are w h) ∙ pairs_of-pairs (row_count w) (drop header w) (octets-drop header w b) (omega (arith, length-drop header w))

  rows_written : concatenated (concatenated (tables w)) ≡ take (total (lengths w)) (drop (header + 2 * row_count w) w)
  rows_written = ap concatenated (joined-tables w) ∙ joined-cut (lengths w) (drop (header + 2 * row_count w) w) (rows-there w h)

  pub image-written : w ≡ image (tables w) (middle w) (drop (image_end w) w)
  image-written =
      peel w 0 header ∙ ap₂ (λ p q. p ++ q) (sym front-written)
      (peel w header (2 * row_count w) ∙ ap₂ (λ p q. p ++ q) (sym lengths-written)
      (peel w (header + 2 * row_count w) (total (lengths w)) ∙ ap (λ p. p ++ drop (image_end w) w) (sym rows_written)))

-- ---- written, then read

module _ (w : List ℕ) (ts : List (List (List ℕ))) (mid rest : List ℕ) (four : length ts ≡ 4) (size : counts_size + length mid ≡ header)
    (e : w ≡ image ts mid rest) where
  abbrev rows : List ℕ
  rows = heads (concatenated ts) ++ (concatenated (concatenated ts) ++ rest)

  counts-first : w ≡ heads ts ++ (mid ++ rows)
  counts-first = e ∙ append_assoc (heads ts) mid rows

  counts-read : counts w ≡ map length ts
  counts-read = sym (counts-pairs w) ∙ ap₂ pairs (sym four) counts-first ∙ pairs-heads ts (mid ++ rows)

  count-read : row_count w ≡ length (concatenated ts)
  count-read = sym (total-counts w) ∙ ap total counts-read ∙ total-lengths ts

  pub middle-read : middle w ≡ mid
  middle-read =
      let n : length (heads ts) ≡ counts_size = omega (arith, length-heads ts) in
      let m : length mid ≡ header - counts_size = omega arith in
      ap (take (header - counts_size)) (ap (drop counts_size) counts-first ∙ drop_at (heads ts) (mid ++ rows) counts_size n)
      ∙ take_at mid rows (header - counts_size) m

  abbrev front : List ℕ
  front = heads ts ++ mid

  lengths_read : pairs (row_count w) (drop header w) ≡ map length (concatenated ts)
  lengths_read =
      ap₂ (λ n v. pairs n v) count-read (ap (drop header) e ∙ drop_at front rows header (length_front ts mid four size))
      ∙ pairs-heads (concatenated ts) (concatenated (concatenated ts) ++ rest)

  rows-read : drop (header + 2 * row_count w) w ≡ concatenated (concatenated ts) ++ rest
  rows-read =
      let l : length (front ++ heads (concatenated ts)) ≡ header + 2 * row_count w =
      omega (arith, length-append front (heads (concatenated ts)), length_front ts mid four size, length-heads (concatenated ts), count-read) in
      ap (drop (header + 2 * row_count w)) (e ∙ sym (append_assoc front (heads (concatenated ts)) (concatenated (concatenated ts) ++ rest)))
      ∙ drop_at (front ++ heads (concatenated ts)) _ (header + 2 * row_count w) l

  pub tables-read : tables w ≡ ts
  tables-read =
      concatenated-inj (tables w) ts (lengths-tables w ∙ counts-read)
      (joined-tables w ∙ ap₂ cut lengths_read rows-read ∙ cut-joined (concatenated ts) rest)

  pub end-within : image_end w ≤ length w
  end-within =
      let t : total (pairs (row_count w) (drop header w)) ≡ length (concatenated (concatenated ts)) = ap total lengths_read ∙ total-lengths (concatenated ts) in
      let l : length w ≡ length front + (length (heads (concatenated ts)) + (length (concatenated (concatenated ts)) + length rest)) = ap length e
      ∙ simp length-append in
      omega (arith, count-read, length_front ts mid four size, length-heads (concatenated ts))
