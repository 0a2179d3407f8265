-- Where the storage of a row lies, and that of the row held at the place of a key.
-- A whole mapping, access or view row has its storage in the last octet but one, since status is its last field. The row held at the place of
-- the key is whole, and so has one. Assumes nothing.
use mathlib.Core.Path.{◌≡◌, refl, sym, ap, ◌∙◌}
use mathlib.Core.Bool.{true, false, cond}
use mathlib.Core.List.{List, [], ◌∷◌, ◌++◌}
use mathlib.Core.Option.{none}
use Prim.Native.Nat.{ℕ, ◌+◌, ◌-◌, ◌≤◌, ◌<◌}
use native.Mathlib.Omega.{arith}
use lib.ListN.{length, take, drop, get_or, length-take, length-drop}
use lib.Seq.{drop-cons}
use Rattle.numbers.specs.Order.{before}
use Rattle.numbers.proofs.Bools.{clash, split}
use Rattle.rows.specs.declared.Table.{Table}
use Rattle.rows.specs.declared.Table.TheVariants.{Context, Mapping, Access, View}
use Rattle.rows.specs.Fields.{Field, integer, faults, values, span}
use Rattle.numbers.specs.BigEndian.{octet}
use Rattle.rows.specs.Rows.{row_fields, number_at}
use Rattle.rows.proofs.Appends.{values-append, faults-append}
use Rattle.numbers.proofs.BigEndian.{get_d_front}
use Rattle.rows.proofs.Sound.{integer-room, faults-first, faults-rest, faults-end}
use Rattle.image_layout.specs.declared.Extent.{Extent}
use Rattle.image_layout.specs.Layout.{Inside, total, lengths_in, rows_in}
use Rattle.image_layout.proofs.Walks.{piece, length_pairs}
use Rattle.table_update.specs.declared.Place.{Place}
use Rattle.table_update.specs.Exchange.{one_if, front, rows_before, is_held, Sought}
use Rattle.table_update.proofs.Keys.{Whole}
use Rattle.table_update.proofs.Seeks.{held-row}
use Rattle.edit_rules.specs.TableRows.{volatile, row_of, storage_of}
use Rattle.edit_rules.specs.Edits.{is_context}
use Rattle.edit_rules.specs.Storage.{storage_in, StorageIn, storage_at}

-- ---- where the storage lies

module _ (ks : List Field) (a b c d : ℕ) (row : List ℕ) (h : faults (ks ++ (integer octet a b ∷ integer octet c d ∷ [])) row ≡ none) where
  two-left : length row - span ks row ≡ 2
  two-left =
      let v = drop (span ks row) row in
      let f = faults-append ks (integer octet a b ∷ integer octet c d ∷ []) row h in
      let g = faults-rest (integer octet a b) (integer octet c d ∷ []) v f in
      let i : 1 ≤ length v = integer-room octet a b v (faults-first _ (integer octet c d ∷ []) v f) in
      let j : 1 ≤ length (drop 1 v) = integer-room octet c d (drop 1 v) (faults-first _ [] (drop 1 v) g) in
      let k : length (drop 1 (drop 1 v)) ≡ 0 = faults-end (drop 1 (drop 1 v)) (faults-rest (integer octet c d) [] (drop 1 v) g) in
      omega (arith, length-drop 1 (drop 1 v), length-drop 1 v, length-drop (span ks row) row)

  -- its values, with the last but one read where it lies
  last-two : values (ks ++ (integer octet a b ∷ integer octet c d ∷ [])) row
      ≡ values ks row ++ ((storage_in row ∷ []) ∷ values (integer octet c d ∷ []) (drop 1 (drop (span ks row) row)))
  last-two =
      let e : span ks row ≡ length row - 2 = omega (arith, two-left) in
      values-append ks (integer octet a b ∷ integer octet c d ∷ []) row
      ∙ ap (λ n. values ks row ++ ((n ∷ []) ∷ values (integer octet c d ∷ []) (drop 1 (drop (span ks row) row))))
      (get_d_front row (span ks row) ∙ ap (λ i. get_or row i 0) e)

pub row-storage : (t : Table) → is_context t ≡ false → (row : List ℕ) → faults (row_fields t) row ≡ none → storage_of t (row_of t row) ≡ storage_in row
unfolding row_fields
row-storage Context n row h = clash refl n
row-storage Mapping n row h = ap (number_at 3) (last-two (take 3 (row_fields Mapping)) 2 5 1 2 row h)
row-storage Access n row h = ap (number_at 8) (last-two (take 8 (row_fields Access)) 2 5 1 2 row h)
row-storage View n row h = ap (number_at 4) (last-two (take 4 (row_fields View)) 2 5 1 2 row h)

pub storage-room : (t : Table) → is_context t ≡ false → (row : List ℕ) → faults (row_fields t) row ≡ none → 2 ≤ length row
unfolding row_fields
storage-room Context n row h = clash refl n
storage-room Mapping n row h = omega (arith, two-left (take 3 (row_fields Mapping)) 2 5 1 2 row h)
storage-room Access n row h = omega (arith, two-left (take 8 (row_fields Access)) 2 5 1 2 row h)
storage-room View n row h = omega (arith, two-left (take 4 (row_fields View)) 2 5 1 2 row h)

-- ---- the row held at the place of a key

pub whole-held : (t : Table) (key : List ℕ) (rs : List (List ℕ)) → Whole t rs → is_held key rs ≡ true → faults (row_fields t)
    (get_or rs (rows_before key rs) []) ≡ none
unfolding rows_before is_held
whole-held t key [] a h = clash h refl
whole-held t key (r ∷ rs) a h =
    split (before (front key r) key) (λ b. rw b (whole-held t key rs a.2 (rw b at h))) (λ b. rw b a.1)

-- its storage, as that of a place
abbrev pub storage_found : List ℕ → List (List ℕ) → ℕ
storage_found key rs = cond (is_held key rs) (storage_in (get_or rs (rows_before key rs) [])) volatile

module _ {w key : List ℕ} {x : Extent} {p : Place} (s : Sought w x key p) where
  held_bytes : p.present ≡ true → piece w p.from p.end ≡ get_or (rows_in w x) (rows_before key (rows_in w x)) []
  held_bytes h = held-row s.place_in h ∙ ap (λ i. get_or (rows_in w x) i []) s.row_is

  pub storage-at : storage_at w p ≡ storage_found key (rows_in w x)
  storage-at =
      split p.present (λ h. rw (h, sym s.present_is ∙ h) (ap storage_in (held_bytes h))) (λ h. rw (h, sym s.present_is ∙ h))

  held_in : Inside w x → p.present ≡ true → p.end ≤ length w
  held_in i h =
      let l = lengths_in w x in
      let q = s.place_in in
      let n : one_if p.present ≡ 1 = ap one_if h in
      let m : p.row < length l = omega (arith, q.row_in, length_pairs x.count (drop x.lengths w)) in
      let e : p.end ≡ p.from + get_or l p.row 0 = q.end_is ∙ rw h in
      omega (arith, ap total (drop-cons l p.row 0 m), q.from_is, i.rows_within)

  -- it has one
  pub held-storage : (t : Table) → is_context t ≡ false → Inside w x → Whole t (rows_in w x) → StorageIn w p
  held-storage t n i a h =
      let v = piece w p.from p.end in
      let f : faults (row_fields t) v ≡ none = ap (faults (row_fields t)) (held_bytes h) ∙ whole-held t key (rows_in w x) a (sym s.present_is ∙ h) in
      let m : 2 ≤ length v = storage-room t n v f in
      (omega (arith, length-take (p.end - p.from) (drop p.from w)), held_in i h)
