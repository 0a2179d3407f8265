-- What an edit promises of a sound store, by the answer at the place of its key.
-- A sound store holds the tables of its rows' bytes, and so does the store afterwards, which is sound again (`Stores` of crate `table_update`):
-- so the promise is one equation between the edit of the tables and the answer with the tables that stand afterwards (`edits-made`), which is
-- `edit-change`. Where the answer is Done, a row put is held or has room, and a row removed is held. Assumes nothing.
use mathlib.Core.Path.{◌≡◌, refl, sym, ap, subst, ◌∙◌}
use mathlib.Core.Bool.{Bool, true, false}
use mathlib.Core.List.{List, []}
use mathlib.Core.Option.{Option, none, some}
use Prim.Native.Nat.{ℕ, ◌-◌, ◌≤◌, ◌<◌}
use native.Mathlib.Omega.{arith}
use lib.Dec.{leb}
use lib.ListN.{length, take}
use lib.Seq.{take_all}
use borrow.Author.Tests.{leb-false}
use Rattle.std.specs.Prelude.{Ok, Err}
use Rattle.answers.specs.declared.Refusal.TheVariants.{Barred, Faulty}
use Rattle.answers.specs.declared.Fault.{Fault}
use Rattle.answers.specs.declared.Fault.TheVariants.{NotSound, TableFull}
use Rattle.numbers.proofs.Bools.{split, clash, is_true, cond-true, cond-false}
use Rattle.numbers.proofs.Greatest.{Ascends}
use Rattle.rows.specs.declared.Table.{Table}
use Rattle.rows.specs.declared.Table.TheVariants.{Context, Mapping, Access, View}
use Rattle.rows.specs.Fields.{faults, span}
use Rattle.rows.specs.Rows.{key_fields, fields_of, limit}
use Rattle.rows.specs.Tables.{Tables}
use Rattle.rows.proofs.Appends.{key_room}
use Rattle.rows.proofs.Inverse.{span-whole}
use Rattle.numbers.specs.BigEndian.{Octets}
use Rattle.image_layout.specs.declared.Layout.{Layout}
use Rattle.image_layout.specs.declared.Extent.{Extent}
use Rattle.image_layout.specs.Layout.{Inside, end_of, rows_in, layout_of, extent_of}
use Rattle.image_judge.specs.Faults.{SoundLayout, tables_at}
use Rattle.image.specs.Store.{is_sound, held}
use Rattle.image.proofs.Surveys.{sound-layout}
use Rattle.table_update.specs.declared.Place.{Place}
use Rattle.table_update.specs.Exchange.{table_rows, one_if, rows_before, is_held, Rising, Sought, ImageIn, TablePlace, RoomFor, one_row, Exchanges}
use Rattle.table_update.proofs.Keys.{rising}
use Rattle.table_update.proofs.Splits.{length-rows}
use Rattle.table_update.proofs.Stores.{row_key, sound-whole, sound-ascends, sound-put, sound-removed, sought-exchanges, one-row}
use Rattle.table_update.proofs.Rooms.{image_in, room_for, room-removed}
use Rattle.edit_rules.specs.declared.Operation.{Operation}
use Rattle.edit_rules.specs.declared.Operation.TheVariants.{Create, Change, Remove}
use Rattle.rows.specs.declared.Shape.{Shape}
use Rattle.rows.specs.declared.Shape.TheVariants.{Row, Key}
use Rattle.edit_rules.specs.Types.{Edited}
use Rattle.edit_rules.specs.Edits.{Outcome, outcome, edited_number, edit_of, shape_of, faulted, row_fault, edit, is_context}
use Rattle.edit_rules.specs.TableRows.{row_index, rows_of}
use Rattle.edit_rules.specs.Storage.{storage_in, storage_at, StorageKnown, place_fault, placed, full_at}
use Rattle.edit_rules.proofs.Storages.{storage-room, storage-at, held-storage}
use Rattle.edit_rules.proofs.Outcomes.{afterwards, judged, faulty-done, changed, comes, tables, tables-ext, rows-ascend, rows_in_lem, key-whole, key_of}
use Rattle.edit_rules.proofs.Outcomes.{fault-here, edit-change}
use Rattle.edit_rules.proofs.Keys.{key-part}
use Rattle.edit_rows.specs.Promise.{answered, left, Edits, length_in}

-- each table of a sound store lies within it
pub table-inside : (t : Table) (w : List ℕ) → is_sound w ≡ true → Inside w (extent_of t (layout_of w))
table-inside Context w h = (sound-layout w h).contexts_sound.inside
table-inside Mapping w h = (sound-layout w h).mappings_sound.inside
table-inside Access w h = (sound-layout w h).accesses_sound.inside
table-inside View w h = (sound-layout w h).views_sound.inside

-- ---- where the tables lie, as the code has it

module _ {w : List ℕ} {l : Layout} (h : is_sound w ≡ true) (q : l ≡ layout_of w) where
  pub inside-laid : (t : Table) {x : Extent} → x ≡ extent_of t l → Inside w x
  inside-laid t e = rw (e ∙ ap (extent_of t) q) (table-inside t w h)

  pub views-laid : Inside w l.views
  views-laid = rw q (table-inside View w h)

  pub sound-laid : SoundLayout w l
  sound-laid = rw q (sound-layout w h)

  pub image-laid : {end : ℕ} → end ≡ end_of w l.views → ImageIn w end
  image-laid e = rw (e ∙ ap (λ k. end_of w k.views) q) (image_in w h)

-- as the code seeks: in an extent that is known, by the bytes up to k
pub rising-laid : (y : Shape) (t : Table) (w bytes : List ℕ) {l : Layout} {x : Extent} {k : ℕ} → is_sound w ≡ true → Octets w → Octets bytes
    → faults (fields_of y t) bytes ≡ none → l ≡ layout_of w → x ≡ extent_of t l → k ≡ span (key_fields t) bytes → Rising (take (k - 0) bytes) (rows_in w x)
rising-laid y t w bytes h b d f q z e =
    rw (key-part t bytes (sym e), z ∙ ap (extent_of t) q) (rising (key_of y t bytes d f) (table_rows t w) (sound-whole t w h b) (sound-ascends t w h))

pub sought-laid : (t : Table) (w bytes : List ℕ) {l : Layout} {x : Extent} {k : ℕ} {p : Place} → l ≡ layout_of w → x ≡ extent_of t l
    → k ≡ span (key_fields t) bytes → Sought w x (take (k - 0) bytes) p → Sought w (extent_of t (layout_of w)) (row_key t bytes) p
sought-laid t w bytes {l} {x} {k} q y e s = let z : k - 0 ≡ span (key_fields t) bytes = omega arith in rw (← q, ← y, ← z) s

-- ---- the promise

abbrev pub store_rows : List ℕ → Table → List (List ℕ)
store_rows w t = table_rows t w

pub held-sound : (w : List ℕ) → is_sound w ≡ true → held w ≡ some (tables (store_rows w))
unfolding held tables_at
held-sound w h = cond-true _ _ h

held-unsound : (w : List ℕ) → is_sound w ≡ false → held w ≡ none
unfolding held
held-unsound w h = cond-false _ _ h

-- the tables that a store holds are those of its rows, and they ascend
pub held-is : (w : List ℕ) {t : Tables} → held w ≡ some t → (is_sound w ≡ true) × (t ≡ tables (store_rows w))
held-is w {t} e =
    split (is_sound w) (λ h. let q : some t ≡ some (tables (store_rows w)) = sym e ∙ held-sound w h in (h, cc))
    (λ h. let q : some t ≡ none = sym e ∙ held-unsound w h in (cc, cc))

pub held-ascends : (w : List ℕ) {t : Tables} → held w ≡ some t → (u : Table) → Ascends (row_index u) (rows_of u t)
held-ascends w e u =
    let h = held-is w e in
    rw (h.1, rows_in_lem (store_rows w) u) (rows-ascend u (table_rows u w) (sound-ascends u w h.0))

pub edits-unsound : (f : Tables → Outcome) (w : List ℕ) → is_sound w ≡ false → Edits f w w (Err (Faulty NotSound))
edits-unsound f w h =
    let e = held-unsound w h in
    let a = sym (ap (answered f) e) in
    record { answer_is = a; number_is = ap edited_number a; rows_are = e ∙ sym (ap (left f) e); refusal_keeps = λ n. refl }

module _ (f : Tables → Outcome) (w : List ℕ) (h : is_sound w ≡ true) where
  edits-made : (after : List ℕ) (r : Edited) → is_sound after ≡ true → f (tables (store_rows w)) ≡ outcome r (tables (store_rows after)) →
      ((r ≡ (Ok tt) → ⊥) → after ≡ w)
      → Edits f w after r
  edits-made after r g e k = record {
    answer_is = sym (ap (answered f) (held-sound w h) ∙ ap (λ o. o.answer) e);
    number_is = ap edited_number (sym (ap (answered f) (held-sound w h) ∙ ap (λ o. o.answer) e));
    rows_are = held-sound after g ∙ sym (ap (left f) (held-sound w h) ∙ ap (λ o. some o.rows) e);
    refusal_keeps = k;
  }

  pub edits-refused : (r : Edited) → f (tables (store_rows w)) ≡ outcome r (tables (store_rows w)) → Edits f w w r
  edits-refused r e = edits-made w r h e (λ n. refl)

  -- by another edit that does the same to these tables
  pub edits-same : (g : Tables → Outcome) → f (tables (store_rows w)) ≡ g (tables (store_rows w)) → {after : List ℕ} {r : Edited}
      → Edits g w after r → Edits f w after r
  edits-same g e k =
      let q = held-sound w h in
      record {
        answer_is = k.answer_is ∙ ap (answered g) q ∙ sym (ap (answered f) q ∙ ap (λ o. o.answer) e);
        number_is = ap edited_number (k.answer_is ∙ ap (answered g) q ∙ sym (ap (answered f) q ∙ ap (λ o. o.answer) e));
        rows_are = k.rows_are ∙ ap (left g) q ∙ sym (ap (left f) q ∙ ap (λ o. some o.rows) e);
        refusal_keeps = k.refusal_keeps;
      }

  edits-done : (after : List ℕ) → is_sound after ≡ true → f (tables (store_rows w)) ≡ outcome (Ok tt) (tables (store_rows after)) → Edits f w after (Ok tt)
  edits-done after g e = edits-made after (Ok tt) g e (λ n. absurd (n refl))

-- ---- the answer at the place

stays : (new old : Tables) (r : Edited) → (r ≡ (Ok tt) → ⊥) → afterwards new old r ≡ old
stays new old (Ok tt) m = absurd (m refl)
stays new old (Err (Barred c)) m = refl
stays new old (Err (Faulty g)) m = refl

-- as it is judged; then as there is room
pub placed-judged : (g : Option Fault) (full : Bool) {r : Edited} → r ≡ faulted g → (r ≡ (Ok tt) → ⊥) → r ≡ placed g full
placed-judged none full e m = absurd (m e)
placed-judged (some g) full e m = e

pub placed-full : (g : Option Fault) {full : Bool} → faulted g ≡ (Ok tt) → full ≡ true → Err (Faulty TableFull) ≡ placed g full
placed-full none e h = rw h
placed-full (some g) e h = absurd (faulty-done e)

pub placed-room : (g : Option Fault) {full : Bool} → faulted g ≡ (Ok tt) → full ≡ false → placed g full ≡ (Ok tt)
placed-room none e h = rw h
placed-room (some g) e h = absurd (faulty-done e)

placed-done : (g : Option Fault) (full : Bool) → placed g full ≡ (Ok tt) → full ≡ false
placed-done none true e = absurd (faulty-done e)
placed-done none false e = refl
placed-done (some g) full e = absurd (faulty-done e)

-- Done only where the row is held, or is put where there is room
done-room : (strict : Bool) (o : Operation) (h : Bool) (old new n m : ℕ) → placed (place_fault strict o h old new) (full_at o n m) ≡ (Ok tt) → h ≡ false
    → (shape_of o ≡ Row) × (m < n)
done-room strict o true old new n m e f = clash refl f
done-room strict Create false old new n m e f = (refl, leb-false n m (placed-done (place_fault strict Create false old new) (leb n m) e))
done-room strict Change false old new n m e f = absurd (faulty-done e)
done-room strict Remove false old new n m e f = absurd (faulty-done e)

-- ---- the bytes handed: where the key ends, and what comes into the table

pub key-within : (y : Shape) (t : Table) (bytes : List ℕ) → faults (fields_of y t) bytes ≡ none → span (key_fields t) bytes ≤ length bytes
key-within Row t bytes f = key_room t bytes f
key-within Key t bytes f = omega (arith, span-whole (key_fields t) bytes f)

abbrev taken : Shape → List ℕ → List ℕ
taken Row bytes = bytes
taken Key bytes = []

taken_is : (y : Shape) (bytes : List ℕ) {n : ℕ} → n ≡ length_in y (length bytes) → take (n - 0) bytes ≡ taken y bytes
taken_is Row bytes {n} e = take_all (n - 0) bytes (omega arith)
taken_is Key bytes {n} e = let z : n - 0 ≡ 0 = omega arith in ap (λ m. take m bytes) z

pub taken-within : (y : Shape) (bytes : List ℕ) {n : ℕ} → n ≡ length_in y (length bytes) → n ≤ length bytes
taken-within Row bytes e = omega arith
taken-within Key bytes e = omega arith

comes-taken : (y : Shape) (t : Table) (bytes : List ℕ) → Octets bytes → faults (fields_of y t) bytes ≡ none → one_row (taken y bytes) ≡ comes y bytes
comes-taken Row t bytes d f = one-row t bytes d f
comes-taken Key t bytes d f = refl

-- ---- a row of a sound store edited

module _ (t : Table) (w : List ℕ) (h : is_sound w ≡ true) (b : Octets w) (strict : Bool) (n : strict ≡ true → is_context t ≡ false)
    (bytes : List ℕ) (d : Octets bytes) {p : Place} (s : Sought w (extent_of t (layout_of w)) (row_key t bytes) p) where
  abbrev key : List ℕ
  key = row_key t bytes

  abbrev rows : List (List ℕ)
  rows = table_rows t w

  abbrev pub fault_at : Operation → Option Fault
  fault_at o = place_fault strict o p.present (storage_at w p) (storage_in bytes)

  abbrev pub full_here : Operation → Bool
  full_here o = full_at o (limit t) (extent_of t (layout_of w)).count

  abbrev pub answer_at : Operation → Edited
  answer_at o = placed (fault_at o) (full_here o)

  -- where the row is not held, the answer Done is of a row put, and there is room
  absent-done : (o : Operation) → answer_at o ≡ (Ok tt) → p.present ≡ false → (shape_of o ≡ Row) × ((extent_of t (layout_of w)).count < limit t)
  absent-done o e = done-room strict o p.present (storage_at w p) (storage_in bytes) (limit t) (extent_of t (layout_of w)).count e

  room-left : (o : Operation) → answer_at o ≡ (Ok tt) → is_held key rows ≡ false → length rows < limit t
  room-left o e m = omega (arith, (absent-done o e (s.present_is ∙ m)).1, length-rows w (extent_of t (layout_of w)))

  removed-held : (o : Operation) → shape_of o ≡ Key → answer_at o ≡ (Ok tt) → p.present ≡ true
  removed-held o q e = is_true p.present (λ m. let z : ◌≡◌ {A = ℕ} 0 1 = cc (sym (absent-done o e m).0 ∙ q) in omega arith)

  room-taken : (o : Operation) (y : Shape) → shape_of o ≡ y → faults (fields_of y t) bytes ≡ none → answer_at o ≡ (Ok tt) → {end : ℕ} → ImageIn w end
      → RoomFor w p end (taken y bytes)
  room-taken o Row q f e i = room_for t w bytes h b d f (room-left o e) i s
  room-taken o Key q f e i = room-removed p i (removed-held o q e)

  sound-after : (o : Operation) (y : Shape) → faults (fields_of y t) bytes ≡ none → answer_at o ≡ (Ok tt) → {after : List ℕ}
      → Exchanges t (rows_before key rows) (one_if (is_held key rows)) (comes y bytes) w after → is_sound after ≡ true
  sound-after o Row f e x = sound-put t w bytes h b d f (room-left o e) x
  sound-after o Key f e x = sound-removed t w bytes h b d f (rw (key-whole t bytes f) at x)

  module _ (o : Operation) (f : faults (fields_of (shape_of o) t) bytes ≡ none) where
    -- what stands against the edit among the tables is what does at the place
    pub fault-is : {l : Layout} → l ≡ layout_of w → fault_at o ≡ row_fault strict (tables_at w l) (edit_of o t bytes)
    unfolding tables_at
    fault-is q =
        sym (fault-here (store_rows w) (λ u. sound-whole u w h b) (λ u. sound-ascends u w h) strict t n bytes d o f
        ∙ rw (storage-at s, s.present_is)) ∙ rw q

    edit-is : edit strict (tables (store_rows w)) (edit_of o t bytes)
        ≡ judged (changed t (rows_before key rows) (one_if (is_held key rows)) (comes (shape_of o) bytes) (store_rows w)) (tables (store_rows w)) (answer_at o)
    edit-is =
        edit-change (store_rows w) (λ u. sound-whole u w h b) (λ u. sound-ascends u w h) strict t n bytes d o f
        ∙ ap (judged (changed t (rows_before key rows) (one_if (is_held key rows)) (comes (shape_of o) bytes) (store_rows w)) (tables (store_rows w)))
        (rw (storage-at s, s.present_is, length-rows w (extent_of t (layout_of w))))

    -- what answering asks
    pub storage-known : strict ≡ true → StorageKnown (shape_of o) w p bytes
    storage-known y = record {
      of_held = held-storage s t (n y) (table-inside t w h) (sound-whole t w h b);
      of_put = λ e. storage-room t (n y) bytes (subst (λ k. faults (fields_of k t) bytes ≡ none) e f);
    }

    pub place-refused : (r : Edited) → r ≡ answer_at o → (r ≡ (Ok tt) → ⊥) → Edits (λ ts. edit strict ts (edit_of o t bytes)) w w r
    place-refused r e m =
        edits-refused (λ ts. edit strict ts (edit_of o t bytes)) w h r (edit-is ∙ ap (judged _ _) (sym e) ∙ ap (outcome r) (stays _ (tables (store_rows w)) r m))

    module _ (e : answer_at o ≡ (Ok tt)) where
      -- what exchanging asks
      pub place-asked : {l : Layout} {x : Extent} {end k : ℕ} → l ≡ layout_of w → x ≡ extent_of t l → end ≡ end_of w l.views
          → k ≡ length_in (shape_of o) (length bytes)
          → TablePlace t w x p end × RoomFor w p end (take (k - 0) bytes)
      place-asked {l} {x} {end} q y v u =
          let i : ImageIn w end = image-laid h q v in
          let z : x ≡ extent_of t (layout_of w) = y ∙ ap (extent_of t) q in
          (record { image_in = i; extent_is = z; place_in = rw z s.place_in }, rw (taken_is (shape_of o) bytes u) (room-taken o (shape_of o) refl f e i))

      pub place-done : {after : List ℕ} {k : ℕ} → k ≡ length_in (shape_of o) (length bytes)
          → Exchanges t p.row (one_if p.present) (one_row (take (k - 0) bytes)) w after → Edits (λ ts. edit strict ts (edit_of o t bytes)) w after (Ok tt)
      place-done {after} u x =
          let y = sought-exchanges s (rw (taken_is (shape_of o) bytes u, comes-taken (shape_of o) t bytes d f) at x) in
          edits-done (λ ts. edit strict ts (edit_of o t bytes)) w h after (sound-after o (shape_of o) f e y)
          (edit-is ∙ ap (judged _ _) e ∙ ap (outcome (Ok tt)) (sym (tables-ext (store_rows after) _ y.rows_are)))
