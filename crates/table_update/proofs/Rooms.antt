-- A sound store has room for a whole row put at its place, where it is held or the table has room for one more.
-- An image takes two bytes and a row's bytes for each row, and no row is longer than its table's longest; with every table at its limit
-- that is the whole store, and each table with the row exchanged is within its limit. Where a row goes out and none comes in, the room
-- that the image has is enough. Assumes nothing.
use mathlib.Core.Path.{◌≡◌, refl, ap}
use mathlib.Core.Bool.{true, false}
use mathlib.Core.List.{List, [], ◌∷◌}
use mathlib.Core.Option.{none}
use Prim.Native.Nat.{ℕ, ◌+◌, ◌*◌, ◌≤◌, ◌<◌}
use native.Mathlib.Nat.{mul-le-mul_right}
use native.Mathlib.Omega.{arith}
use lib.ListN.{length, take, drop, length-append}
use Rattle.rows.specs.declared.Table.{Table}
use Rattle.rows.specs.declared.Table.TheVariants.{Context, Mapping, Access, View}
use Rattle.rows.specs.Fields.{faults}
use Rattle.rows.specs.Rows.{row_fields, limit, index_of}
use Rattle.rows.proofs.Bounds.{longest_row, longest-most, row-bounded}
use Rattle.numbers.specs.BigEndian.{Octets}
use Rattle.image_layout.specs.Layout.{pairs, total, end_of, header, count, layout_of, laid_out, extent_of, image_end}
use Rattle.image_judge.specs.Faults.{table_fault}
use Rattle.image.specs.Store.{room, is_sound}
use Rattle.image_layout.proofs.Layouts.{total-pairs}
use Rattle.table_update.specs.Exchange.{table_rows, one_if, rows_before, is_held, ImageIn, TablePlace, RoomFor, Sought, exchanged}
use Rattle.table_update.specs.declared.Place.{Place}
use Rattle.table_update.proofs.Written.{concatenated, concatenated-append}
use Rattle.table_update.proofs.Images.{tables_end}
use Rattle.table_update.proofs.Exchanges.{gone-bytes}
use Rattle.table_update.proofs.Keys.{KeyOf, key-of-row}
use Rattle.table_update.proofs.Faults.{Comes, whole, rows-bounded, place-fits, exchanged-length, exchanged-bytes}
use Rattle.table_update.proofs.Stores.{SoundStore, length-table, sound-few, store-sound, changed-sound, changed-few, row_key, one_more}

-- ---- the room

four_bytes : (a b c d : List (List ℕ)) → length (concatenated (concatenated (a ∷ b ∷ c ∷ d ∷ []))) ≡ length (concatenated a) + length
    (concatenated b) + length (concatenated c) + length (concatenated d)
four_bytes a b c d = simp (concatenated-append, length-append) (omega arith)

-- the bytes of each table's rows
abbrev bytes_of : List ℕ → Table → ℕ
bytes_of w t = length (concatenated (table_rows t w))

abbrev sum : (Table → ℕ) → ℕ
sum f = f Context + f Mapping + f Access + f View

end-sum : (w : List ℕ) → image_end w ≤ length w → image_end w ≡ header + 2 * sum (λ t. length (table_rows t w)) + sum (bytes_of w)
end-sum w h =
    omega (
      arith,
      tables_end w h,
      four_bytes (table_rows Context w) (table_rows Mapping w) (table_rows Access w) (table_rows View w),
      length-table Context w,
      length-table Mapping w,
      length-table Access w,
      length-table View w,
    )

-- full tables of the longest rows fill the room
pub full-room : header + sum (λ t. limit t * (2 + longest_row t)) ≡ room
full-room = refl

-- n rows of b bytes in each table; in table t, k more rows of `add` bytes for m rows of `gone` bytes
module _ (n b : Table → ℕ) (p : (t : Table) → n t ≤ limit t) (q : (t : Table) → b t ≤ limit t * longest_row t) where
  room-sum : (t : Table) (i j k m add gone : ℕ) → i ≤ limit t → j ≤ limit t * longest_row t → i + m ≡ n t + k → j + gone ≡ b t + add
      → header + 2 * sum n + sum b + add + 2 * k ≤ room + gone + 2 * m
  room-sum Context i j k m add gone x y e f = omega (arith, p Mapping, p Access, p View, q Mapping, q Access, q View)
  room-sum Mapping i j k m add gone x y e f = omega (arith, p Context, p Access, p View, q Context, q Access, q View)
  room-sum Access i j k m add gone x y e f = omega (arith, p Context, p Mapping, p View, q Context, q Mapping, q View)
  room-sum View i j k m add gone x y e f = omega (arith, p Context, p Mapping, p Access, q Context, q Mapping, q Access)

bytes_most : (t : Table) (rs : List (List ℕ)) → table_fault t [] rs ≡ none → length rs ≤ limit t → length (concatenated rs) ≤ limit t * longest_row t
bytes_most t rs h l = omega (arith, rows-bounded t [] rs h, mul-le-mul_right (longest_row t) l)

-- tables within their limits, of rows without fault, take no more than the room
pub rows_room : (w : List ℕ) → image_end w ≤ length w → ((t : Table) → length (table_rows t w) ≤ limit t) → ((t : Table) → table_fault t [] (table_rows t w) ≡ none)
    → image_end w ≤ room
rows_room w h few s =
    let b : (t : Table) → bytes_of w t ≤ limit t * longest_row t = λ t. bytes_most t (table_rows t w) (s t) (few t) in
    omega (
      arith,
      end-sum w h,
      room-sum (λ t. length (table_rows t w)) (bytes_of w) few b Context _ _ 0 0 0 0 (few Context) (b Context) (omega arith)
          (omega arith),
    )

module _ (t : Table) (w key v : List ℕ) (new : List (List ℕ)) (b : Octets w) (s : SoundStore w) (k : KeyOf t key (index_of t v)) (c : Comes t (index_of t v) new)
    (f : length (table_rows t w) + length new ≤ limit t + one_if (is_held key (table_rows t w))) where
  room_after : let rs = table_rows t w in let n = one_if (is_held key rs) in
      image_end w + length (concatenated new) + 2 * length new ≤ length w + length (concatenated (take n (drop (rows_before key rs) rs))) + 2 * n
  room_after =
      let rs = table_rows t w in
      let i = rows_before key rs in
      let n = one_if (is_held key rs) in
      let few = changed-few t w key v new b s k c f in
      let r = room-sum (λ u. length (table_rows u w)) (bytes_of w) s.few (λ u. bytes_most u (table_rows u w) (s.rows_sound u) (s.few u)) t
      (length (exchanged i n new rs)) (length (concatenated (exchanged i n new rs))) (length new) n (length (concatenated new))
      (length (concatenated (take n (drop i rs))))
      few (bytes_most t (exchanged i n new rs) (changed-sound t w key v new b s k c) few)
      (exchanged-length i n new rs (place-fits key rs)) (exchanged-bytes i n new rs) in
      omega (arith, r, end-sum w s.end_in, s.size_is)

-- ---- the end of the image, as the code finds it

pub end-views : (w : List ℕ) → end_of w (layout_of w).views ≡ image_end w
unfolding layout_of laid_out
end-views w =
    let c = count 0 w in
    let m = count 1 w in
    let a = count 2 w in
    let v = count 3 w in
    let e : c + m + a + v ≡ c + (m + (a + v)) = omega arith in
    omega (
      arith,
      ap (λ n. total (pairs n (drop header w))) e,
      total-pairs w header c (m + (a + v)),
      total-pairs w (header + 2 * c) m (a + v),
      total-pairs w (header + 2 * c + 2 * m) a v,
    )

pub image_in : (w : List ℕ) → is_sound w ≡ true → ImageIn w (end_of w (layout_of w).views)
image_in w h =
    record { few = sound-few w h; end_is = end-views w; end_in = omega (arith, end-views w, (store-sound w h).end_in) }

-- ---- a whole row put

module _ (t : Table) (w row : List ℕ) (h : is_sound w ≡ true) (b : Octets w) (d : Octets row) (f : faults (row_fields t) row ≡ none)
    (n : is_held (row_key t row) (table_rows t w) ≡ false → length (table_rows t w) < limit t) where
  pub room_for : {p : Place} {end : ℕ} → ImageIn w end → Sought w (extent_of t (layout_of w)) (row_key t row) p → RoomFor w p end row
  room_for {p} {end} i s =
      let r = room_after t w (row_key t row) row (row ∷ []) b (store-sound w h) (key-of-row t row d f) (whole f refl) (one_more t w row h b d f n) in
      let a : TablePlace t w (extent_of t (layout_of w)) p end = record { image_in = i; extent_is = refl; place_in = s.place_in } in
      record {
        length_said = omega (arith, row-bounded t row f, longest-most t);
        row_fits = omega (arith, rw (← s.row_is, ← s.present_is) at r, gone-bytes b a, i.end_is, length-append row []);
      }

-- ---- a row removed

pub room-removed : {w : List ℕ} (p : Place) {end : ℕ} → ImageIn w end → p.present ≡ true → RoomFor w p end []
room-removed p i e = record { length_said = omega arith; row_fits = rw e (omega (arith, i.end_in)) }
