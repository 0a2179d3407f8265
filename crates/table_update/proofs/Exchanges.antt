-- A row of a table exchanged, in the bytes of an image.
-- The image's tables are those ahead of table t, table t and those behind (`Splits`), and the place splits table t's rows once more; so
-- all rows of the image are those on the left of the place, the one that goes out, if any, and those on the right (`swap`). The splice
-- of its length and its bytes swaps it, and with the count's low octet the bytes are the image of the same tables with table t's rows
-- exchanged; so those are the tables read off them. Assumes nothing.
use mathlib.Core.Path.{◌≡◌, refl, sym, ap, ap₂, subst, ◌∙◌}
use mathlib.Core.Bool.{Bool, true, false, cond}
use mathlib.Core.List.{List, [], ◌∷◌, ◌++◌, map, append_assoc, append-nil}
use Prim.Native.Nat.{ℕ, zero, suc, ◌+◌, ◌-◌, ◌*◌, ◌/◌, ◌%◌, ◌≤◌, ◌<◌}
use native.Mathlib.Omega.{arith}
use lib.Dec.{eqb, ltb}
use lib.ListN.{length, take, drop, get_or, set, length-append, length-drop, length-set, take-append-drop, get_or-map}
use lib.Seq.{drop-cons, drop-drop, length-take-le, set-append_left}
use borrow.Author.Tests.{lt-ltb, eq-eqb, ne_eqb, eqb-true}
use Rattle.std.specs.Int.{from_bool}
use Rattle.numbers.proofs.Bools.{split, test-ext}
use Rattle.rows.specs.declared.Table.{Table}
use Rattle.numbers.specs.BigEndian.{Octets}
use Rattle.image_layout.specs.declared.Extent.{Extent}
use Rattle.image_layout.specs.Layout.{total, lengths_in, rows_in, end_of, counts_size, header, middle, row_count, image_end, most_rows, most_pair}
use Rattle.splice.specs.Splice.{spliced_two}
use Rattle.table_update.specs.declared.Place.{Place}
use Rattle.table_update.specs.Exchange.{position, count_at, table_rows, one_if, TablePlace, exchanged, one_row, Exchanges}
use Rattle.table_update.proofs.Written.{concatenated, concatenated-append, heads, length-heads, set-heads, total-lengths}
use Rattle.table_update.proofs.Splits.{length-rows, lengths-rows, tables, table_at, Split, split-table, table-inside, position-below}
use Rattle.table_update.proofs.Swaps.{laid, Swap, swapped}
use Rattle.table_update.proofs.Images.{image, length-middle, length_front, image-written, tables-count, tables_end, end-within, middle-read}
use Rattle.table_update.proofs.Images.{tables-read}

-- ---- lists

eqb-suc : (m n : ℕ) → eqb (suc m) (suc n) ≡ eqb m n
eqb-suc m n = test-ext _ _ (λ e. eq-eqb m n (omega (arith, eqb-true (suc m) (suc n) e))) (λ e. eq-eqb (suc m) (suc n) (omega (arith, eqb-true m n e)))

module _ {A : Type 0} where
  -- a list in three: the first i, the next n, the others
  pub parts : (i n : ℕ) (xs : List A) → xs ≡ take i xs ++ (take n (drop i xs) ++ drop (i + n) xs)
  parts i n xs = sym (take-append-drop i xs) ∙ ap (λ l. take i xs ++ l) (sym (take-append-drop n (drop i xs)) ∙ ap (λ l. take n (drop i xs) ++ l)
      (drop-drop n i xs))

  drop-lengths : (i : ℕ) (xs : List (List A)) → drop i (map length xs) ≡ map length (drop i xs)
  drop-lengths zero xs = refl
  drop-lengths (suc i) [] = refl
  drop-lengths (suc i) (x ∷ xs) = drop-lengths i xs

  -- none or one of them, by a test
  length-one : (h : Bool) (i : ℕ) (xs : List (List A)) → i + one_if h ≤ length xs
      → length (concatenated (take (one_if h) (drop i xs))) ≡ cond h (get_or (map length xs) i 0) 0
  length-one false i xs k = refl
  length-one true i xs k =
      rw (drop-cons xs i [] (omega arith)) (omega (arith, length-append (get_or xs i []) [], get_or-map length xs i []))

  -- by position, one of them in another's place
  get_or-other : (a b : List A) (x y d : A) (j : ℕ) → get_or (a ++ (y ∷ b)) j d ≡ cond (eqb (length a) j) y (get_or (a ++ (x ∷ b)) j d)
  get_or-other [] b x y d zero = refl
  get_or-other [] b x y d (suc j) = rw (ne_eqb 0 (suc j) (λ e. omega arith))
  get_or-other (z ∷ a) b x y d zero = rw (ne_eqb (suc (length a)) 0 (λ e. omega arith))
  get_or-other (z ∷ a) b x y d (suc j) = rw (eqb-suc (length a) j) (get_or-other a b x y d j)

-- a row, or none where it has no bytes
pub one-if-most : (b : Bool) → one_if b ≤ 1
one-if-most true = omega arith
one-if-most false = omega arith

-- as the code counts them
pub held-one : {n : ℕ} (b : Bool) → n ≡ from_bool b → n ≡ one_if b
held-one true e = e
held-one false e = e

pub held-most : {n : ℕ} (b : Bool) → n ≡ from_bool b → n ≤ 1
held-most b e = omega (arith, held-one b e, one-if-most b)

pub joined-one : (row : List ℕ) → concatenated (one_row row) ≡ row
joined-one [] = refl
joined-one (a ∷ row) = append-nil (a ∷ row)

pub count-one : (row : List ℕ) → length (one_row row) ≡ one_if (ltb 0 (length row))
count-one [] = refl
count-one (a ∷ row) = rw (lt-ltb 0 (suc (length row)) (omega arith))

pub heads-one : (row : List ℕ) → heads (one_row row) ≡ take (2 * one_if (ltb 0 (length row))) (length row / 256 ∷ length row % 256 ∷ [])
heads-one [] = refl
heads-one (a ∷ row) = rw (lt-ltb 0 (suc (length row)) (omega arith))

-- ---- the place

pub count-below : (t : Table) → count_at t < counts_size
count-below t = omega (arith, position-below t)

module _ {t : Table} {w : List ℕ} {x : Extent} {p : Place} {end : ℕ} (b : Octets w) (q : TablePlace t w x p end) where
  within : image_end w ≤ length w
  within = omega (arith, q.image_in.end_is, q.image_in.end_in)

  size : counts_size + length (middle w) ≡ header
  size = length-middle w (omega (arith, within))

  s : Split w header (header + 2 * row_count w) (tables w) x (position t)
  s = subst (λ y. Split w header (header + 2 * row_count w) (tables w) y (position t)) (sym q.extent_is) (split-table t w within)

  abbrev front : List ℕ
  front = heads (tables w) ++ middle w

  front_length : length front ≡ header
  front_length = length_front (tables w) (middle w) refl size

  abbrev rows : List (List ℕ)
  rows = rows_in w x

  lengths-are : map length rows ≡ lengths_in w x
  lengths-are = lengths-rows w x (subst (λ y. end_of w y ≤ length w) (sym q.extent_is) (table-inside t w within).rows_within)

  fits : p.row + one_if p.present ≤ length rows
  fits = omega (arith, q.place_in.row_in, length-rows w x)

  abbrev left : List (List ℕ)
  left = concatenated s.ahead ++ take p.row rows

  abbrev out : List (List ℕ)
  out = take (one_if p.present) (drop p.row rows)

  abbrev right : List (List ℕ)
  right = drop (p.row + one_if p.present) rows ++ concatenated s.behind

  rows_are : concatenated (tables w) ≡ left ++ (out ++ right)
  rows_are =
      ap concatenated s.tables_are ∙ concatenated-append s.ahead (rows ∷ s.behind)
      ∙ ap (λ l. concatenated s.ahead ++ (l ++ concatenated s.behind)) (parts p.row (one_if p.present) rows) ∙ simp append_assoc

  bytes_are : w ≡ laid front (left ++ (out ++ right)) (drop (image_end w) w)
  bytes_are = image-written w b within ∙ ap (λ l. laid front l (drop (image_end w) w)) rows_are

  left-length : length left ≡ length (concatenated s.ahead) + p.row
  left-length = length-append (concatenated s.ahead) (take p.row rows) ∙ ap (λ n. length (concatenated s.ahead) + n)
      (length-take-le p.row rows (omega (arith, fits)))

  out-length : length out ≡ one_if p.present
  out-length = length-take-le (one_if p.present) (drop p.row rows) (omega (arith, fits, length-drop p.row rows))

  count_is : row_count w ≡ length left + length out + length right
  count_is =
      tables-count w ∙ ap length rows_are ∙ length-append left (out ++ right) ∙ omega (arith, length-append out right)

  pub few-rows : x.count ≤ most_rows
  few-rows = omega (
    arith,
    q.image_in.few,
    count_is,
    left-length,
    out-length,
    length-append (drop (p.row + one_if p.present) rows)
        (concatenated s.behind),
    length-drop (p.row + one_if p.present) rows,
    length-rows w x,
  )

  left-bytes : length (concatenated left) ≡ length (concatenated (concatenated s.ahead)) + length (concatenated (take p.row rows))
  left-bytes = ap length (concatenated-append (concatenated s.ahead) (take p.row rows)) ∙ length-append (concatenated (concatenated s.ahead))
      (concatenated (take p.row rows))

  end-bytes : length (concatenated (concatenated (tables w))) ≡ length (concatenated left) + length (concatenated out) + length (concatenated right)
  end-bytes = ap (λ l. length (concatenated l)) rows_are ∙ simp (concatenated-append, length-append) (omega arith)

  from_bytes : p.from ≡ x.rows + length (concatenated (take p.row rows))
  from_bytes =
      let a : total (drop p.row (lengths_in w x)) ≡ length (concatenated (drop p.row rows)) =
      ap (λ l. total (drop p.row l)) (sym lengths-are) ∙ ap total (drop-lengths p.row rows) ∙ total-lengths (drop p.row rows) in
      let b : total (lengths_in w x) ≡ length (concatenated (take p.row rows)) + length (concatenated (drop p.row rows)) =
      ap total (sym lengths-are) ∙ total-lengths rows ∙ ap (λ l. length (concatenated l)) (sym (take-append-drop p.row rows))
      ∙ ap length (concatenated-append (take p.row rows) (drop p.row rows)) ∙ length-append (concatenated (take p.row rows))
      (concatenated (drop p.row rows)) in
      omega (arith, q.place_in.from_is)

  pub gone-bytes : p.end ≡ p.from + length (concatenated out)
  gone-bytes =
      q.place_in.end_is
      ∙ ap (λ n. p.from + n) (ap (λ l. cond p.present (get_or l p.row 0) 0) (sym lengths-are) ∙ sym (length-one p.present p.row rows fits))

  pub swap : Swap w p.from (p.end - p.from) (x.lengths + 2 * p.row) (one_if p.present) end
  swap = record {
    front = front;
    left = left;
    out = out;
    right = right;
    rest = drop (image_end w) w;
    bytes_are = bytes_are;
    place_is = omega (arith, s.lengths_at, left-length, front_length);
    had_is = sym out-length;
    from_is = omega (arith, from_bytes, s.rows_at, left-bytes, count_is, front_length);
    gone_is = omega (arith, gone-bytes);
    end_is = omega (
      arith,
      q.image_in.end_is,
      tables_end w within,
      end-bytes,
      gone-bytes,
      from_bytes,
      s.rows_at,
      left-bytes,
    );
  }

  -- new rows come in, and the count is set
  module _ (new : List (List ℕ)) (c : ℕ) (one : length new ≤ 1) (e : c + one_if p.present ≡ x.count + length new) where
    abbrev changed : List (List ℕ)
    changed = exchanged p.row (one_if p.present) new rows

    abbrev after : List (List (List ℕ))
    after = s.ahead ++ (changed ∷ s.behind)

    rows-after : left ++ (new ++ right) ≡ concatenated after
    rows-after = sym (concatenated-append s.ahead (changed ∷ s.behind) ∙ simp append_assoc)

    changed-length : length changed ≡ c
    changed-length =
        simp (length-append, length-drop) (omega (arith, length-take-le p.row rows (omega (arith, fits)), fits, length-rows w x))

    count_set : set (heads (tables w)) (count_at t) c ≡ heads after
    count_set =
        ap (λ l. set (heads l) (count_at t) c) s.tables_are
        ∙ set-heads s.ahead s.behind rows changed (position t) c s.place_is (omega (arith, few-rows, length-rows w x)) changed-length
        (omega (arith, few-rows))

    front-set : set front (count_at t) c ≡ heads after ++ middle w
    front-set =
        set-append_left (heads (tables w)) (middle w) (count_at t) c (omega (arith, count-below t, length-heads (tables w)))
        ∙ ap (λ f. f ++ middle w) count_set

    image-set : (tail : List ℕ) → set (laid front (left ++ (new ++ right)) tail) (count_at t) c ≡ image after (middle w) tail
    image-set tail =
        set-append_left front _ (count_at t) c (omega (arith, count-below t, front_length))
        ∙ ap₂ (λ f l. f ++ (heads l ++ (concatenated l ++ tail))) front-set rows-after

    -- the bytes afterwards
    module _ (y : List ℕ) (l : length y ≡ length w)
        (f : y ≡ set (spliced_two w (x.lengths + 2 * p.row) (2 * one_if p.present) (heads new) p.from (p.end - p.from) end (concatenated new))
        (count_at t) c) where
      abbrev tail : List ℕ
      tail = (swapped swap new).0

      y-image : y ≡ image after (middle w) tail
      unfolding swap
      y-image = f ∙ ap (λ v. set v (count_at t) c) (swapped swap new).1 ∙ image-set tail

      four : length after ≡ 4
      four = omega (arith, length-append s.ahead (changed ∷ s.behind), length-append s.ahead (rows ∷ s.behind), ap length s.tables_are)

      table-after : (u : Table) → table_rows u y ≡ cond (eqb (position t) (position u)) changed (table_rows u w)
      table-after u =
          table_at u y ∙ ap (λ ts. get_or ts (position u) []) (tables-read y after (middle w) tail four size y-image)
          ∙ get_or-other s.ahead s.behind rows changed [] (position u)
          ∙ ap₂ (λ n r. cond (eqb n (position u)) changed r) s.place_is (ap (λ ts. get_or ts (position u) []) (sym s.tables_are) ∙ sym (table_at u w))

      same-table : (u : Table) → position t ≡ position u → rows ≡ table_rows u w
      same-table u n = ap (rows_in w) q.extent_is ∙ table_at t w ∙ ap (λ k. get_or (tables w) k []) n ∙ sym (table_at u w)

      pub exchanges : Exchanges t p.row (one_if p.present) new w y
      exchanges = record {
        rows_are = λ u. table-after u
            ∙ split (eqb (position t) (position u))
            (λ n. rw n (ap (exchanged p.row (one_if p.present) new) (same-table u (eqb-true (position t) (position u) n))))
            (λ n. rw n);
        middle_is = middle-read y after (middle w) tail four size y-image;
        size_is = l;
        end_in = end-within y after (middle w) tail four size y-image;
      }

  -- as the code does it, with one row or none
  module _ (row : List ℕ) {u head : List ℕ} {said has had at : ℕ} (g : head ≡ said / 256 % 256 ∷ said % 256 ∷ []) (s : said ≡ length row) (r : length row ≤ most_pair)
      (a : u ≡ spliced_two w (x.lengths + 2 * p.row) (2 * had) (take (2 * has) head) p.from (p.end - p.from) end row) where
    pub exchanges-row : had ≡ one_if p.present → has ≡ one_if (ltb 0 (length row)) → at ≡ count_at t → length u ≡ length w
        → Exchanges t p.row (one_if p.present) (one_row row) w (set u at (x.count + has - had))
    exchanges-row d e f l =
        let n : length (one_row row) ≡ has = count-one row ∙ sym e in
        let b : length row / 256 % 256 ≡ length row / 256 = omega arith in
        let h : take (2 * has) head ≡ heads (one_row row) = ap (λ k. take (2 * has) k) g ∙ rw (s, b, e) (sym (heads-one row)) in
        let k : u ≡ spliced_two w (x.lengths + 2 * p.row) (2 * one_if p.present) (heads (one_row row)) p.from (p.end - p.from) end row = rw
        (h, d) at a in
        exchanges (one_row row) (x.count + has - had) (omega (arith, count-one row, one-if-most (ltb 0 (length row)))) (omega (arith, q.place_in.row_in))
        (set u at (x.count + has - had)) (length-set u at (x.count + has - had) ∙ l)
        (rw (f, joined-one row) (ap (λ z. set z (count_at t) (x.count + has - had)) k))
