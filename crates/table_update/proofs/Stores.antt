-- A sound store with a row of a table exchanged at a key's place is sound again.
-- Soundness as facts by table (`SoundStore`): the table that is exchanged has them by `Faults`, and the others have what they had.
-- So it is for a whole row put, where it is held or the table has room for one more, and for a row removed. Assumes nothing.
use mathlib.Core.Path.{◌≡◌, refl, sym, ap, subst, ◌∙◌}
use mathlib.Core.Bool.{true, false}
use mathlib.Core.List.{List, [], ◌∷◌}
use mathlib.Core.Option.{none}
use Prim.Native.Nat.{ℕ, zero, suc, ◌+◌, ◌≤◌, ◌<◌}
use native.Mathlib.Omega.{arith}
use lib.Dec.{eqb}
use lib.ListN.{length, take}
use lib.Seq.{take-nil}
use borrow.Author.Tests.{eq-eqb, ne_eqb, eqb-true, le-leb}
use Rattle.numbers.specs.Order.{before}
use Rattle.numbers.proofs.Bools.{clash, split, cond-true, cond-false, and_both}
use Rattle.numbers.proofs.Greatest.{Ascends}
use Rattle.rows.specs.declared.Table.{Table}
use Rattle.rows.specs.declared.Table.TheVariants.{Context, Mapping, Access, View}
use Rattle.rows.specs.Fields.{faults, span}
use Rattle.rows.specs.Rows.{key_fields, row_fields, limit, index_of}
use Rattle.numbers.specs.BigEndian.{Octets}
use Rattle.image_layout.specs.declared.Extent.{Extent}
use Rattle.image_layout.specs.Layout.{rows_in, count, row_count, image_end, within_limits, most_rows, layout_of, laid_out, extent_of}
use Rattle.image_layout.proofs.Limits.{within-limits, limits-within, few}
use Rattle.image_judge.specs.Faults.{table_fault, rows_fault, SoundLayout}
use Rattle.image.specs.Store.{room, sound_rows, is_sound}
use Rattle.image_judge.proofs.Keys.{stands-nil}
use Rattle.image_judge.proofs.Sound.{ascends-rows}
use Rattle.image.proofs.Surveys.{store-tests, sound-layout}
use Rattle.table_update.specs.Exchange.{position, table_rows, one_if, rows_before, is_held, Sought, exchanged, one_row, Exchanges}
use Rattle.table_update.specs.declared.Place.{Place}
use Rattle.table_update.proofs.Splits.{length-rows}
use Rattle.table_update.proofs.Keys.{KeyOf, Whole, whole-rows, key-of-row, key-of-key}
use Rattle.table_update.proofs.Faults.{Comes, nothing, whole, index-some, fault-exchanged, place-fits, exchanged-length}

-- ---- soundness by table

pub record SoundStore (w : List ℕ) : Type 0 where
  pub size_is : length w ≡ room
  pub few : (t : Table) → length (table_rows t w) ≤ limit t
  pub end_in : image_end w ≤ length w
  pub rows_sound : (t : Table) → table_fault t [] (table_rows t w) ≡ none

abbrev pub count_of : Table → List ℕ → ℕ
count_of t w = count (position t) w

pub length-table : (t : Table) (w : List ℕ) → length (table_rows t w) ≡ count_of t w
unfolding layout_of laid_out
length-table Context w = length-rows w (extent_of Context (layout_of w))
length-table Mapping w = length-rows w (extent_of Mapping (layout_of w))
length-table Access w = length-rows w (extent_of Access (layout_of w))
length-table View w = length-rows w (extent_of View (layout_of w))

-- what passed the tests, by table
pub within-rows : (w : List ℕ) → within_limits (count 0 w) (count 1 w) (count 2 w) (count 3 w) ≡ true → (t : Table) → length (table_rows t w) ≤ limit t
within-rows w h t = by-table t (limits-within (count 0 w) (count 1 w) (count 2 w) (count 3 w) h)
  where
    by-table : (t : Table) → (count 0 w ≤ limit Context) × (count 1 w ≤ limit Mapping) × (count 2 w ≤ limit Access) × (count 3 w ≤ limit View)
        → length (table_rows t w) ≤ limit t
    by-table Context l = omega (arith, length-table Context w, l.0)
    by-table Mapping l = omega (arith, length-table Mapping w, l.1)
    by-table Access l = omega (arith, length-table Access w, l.2)
    by-table View l = omega (arith, length-table View w, l.3)

pub layout-rows : (w : List ℕ) → SoundLayout w (layout_of w) → (t : Table) → table_fault t [] (table_rows t w) ≡ none
layout-rows w l Context = l.contexts_sound.rows_sound
layout-rows w l Mapping = l.mappings_sound.rows_sound
layout-rows w l Access = l.accesses_sound.rows_sound
layout-rows w l View = l.views_sound.rows_sound

pub sound-store : (w : List ℕ) → SoundStore w → is_sound w ≡ true
unfolding is_sound sound_rows layout_of rows_fault
sound-store w s =
    let l : (t : Table) → count_of t w ≤ limit t = λ t. omega (arith, length-table t w, s.few t) in
    and_both (eq-eqb (length w) room s.size_is)
    (and_both (within-limits _ _ _ _ (l Context) (l Mapping) (l Access) (l View))
    (and_both (le-leb (image_end w) (length w) s.end_in) (rw (s.rows_sound Context, s.rows_sound Mapping, s.rows_sound Access, s.rows_sound View))))

module _ (w : List ℕ) (h : is_sound w ≡ true) where
  pub sound-few : row_count w ≤ most_rows
  sound-few = few (count 0 w) (count 1 w) (count 2 w) (count 3 w) (store-tests w h).1

  sound-table : (t : Table) → table_fault t [] (table_rows t w) ≡ none
  sound-table = layout-rows w (sound-layout w h)

  pub store-sound : SoundStore w
  store-sound =
      let t = store-tests w h in
      record { size_is = t.0; few = within-rows w t.1; end_in = t.2; rows_sound = sound-table }

-- the rows of each table are whole, and their indices ascend
pub sound-whole : (t : Table) (w : List ℕ) → is_sound w ≡ true → Octets w → Whole t (table_rows t w)
sound-whole t w h b = whole-rows t w (extent_of t (layout_of w)) b (sound-table w h t)

pub sound-ascends : (t : Table) (w : List ℕ) → is_sound w ≡ true → Ascends (index_of t) (table_rows t w)
sound-ascends t w h = ascends-rows t [] (table_rows t w) (sound-table w h t)

-- ---- the table that is exchanged, and the others

table_at : ℕ → Table
table_at zero = Context
table_at (suc zero) = Mapping
table_at (suc (suc zero)) = Access
table_at (suc (suc (suc n))) = View

table-position : (t : Table) → table_at (position t) ≡ t
unfolding table_at
table-position Context = refl
table-position Mapping = refl
table-position Access = refl
table-position View = refl

pub position-inj : (t u : Table) → position t ≡ position u → t ≡ u
position-inj t u e = sym (table-position t) ∙ ap table_at e ∙ table-position u

-- what holds of each table before, and of table t exchanged, holds of each afterwards
pub each-table : {t : Table} {i gone : ℕ} {new : List (List ℕ)} {found after : List ℕ} (P : Table → List (List ℕ) → Type 0) → Exchanges t i gone new found after
    → P t (exchanged i gone new (table_rows t found)) → ((u : Table) → P u (table_rows u found)) → (u : Table) → P u (table_rows u after)
each-table {t} {i} {gone} {new} {found} P e p q u =
    subst (P u) (sym (e.rows_are u))
    (split (eqb (position t) (position u))
    (λ n. rw n (subst (λ v. P v (exchanged i gone new (table_rows v found))) (position-inj t u (eqb-true (position t) (position u) n)) p))
    (λ n. rw n (q u)))

-- ---- soundness is kept

-- rows of table t exchanged at the place of a key of v's index
module _ (t : Table) (w key v : List ℕ) (new : List (List ℕ)) (b : Octets w) (s : SoundStore w) (k : KeyOf t key (index_of t v))
    (c : Comes t (index_of t v) new) where
  abbrev rows : List (List ℕ)
  rows = table_rows t w

  abbrev had : ℕ
  had = one_if (is_held key rows)

  pub changed-sound : table_fault t [] (exchanged (rows_before key rows) had new rows) ≡ none
  changed-sound = fault-exchanged t k c [] rows (whole-rows t w (extent_of t (layout_of w)) b (s.rows_sound t)) (index-some t v) (s.rows_sound t)

  module _ (f : length rows + length new ≤ limit t + had) where
    pub changed-few : length (exchanged (rows_before key rows) had new rows) ≤ limit t
    changed-few = omega (arith, exchanged-length (rows_before key rows) had new rows (place-fits key rows))

    pub sound-exchanged : (after : List ℕ) → Exchanges t (rows_before key rows) had new w after → is_sound after ≡ true
    sound-exchanged after e = sound-store after (record {
      size_is = e.size_is ∙ s.size_is;
      few = each-table (λ u rs. length rs ≤ limit u) e changed-few s.few;
      end_in = e.end_in;
      rows_sound = each-table (λ u rs. table_fault u [] rs ≡ none) e changed-sound s.rows_sound;
    })

-- ---- what an exchange at a sought place says

-- the table itself, and the others
module _ {t : Table} {i gone : ℕ} {new : List (List ℕ)} {found after : List ℕ} (e : Exchanges t i gone new found after) where
  pub table-exchanged : table_rows t after ≡ exchanged i gone new (table_rows t found)
  table-exchanged = e.rows_are t ∙ cond-true _ _ (eq-eqb (position t) (position t) refl)

  pub others-stay : (u : Table) → (t ≡ u → ⊥) → table_rows u after ≡ table_rows u found
  others-stay u n = e.rows_are u ∙ cond-false _ _ (ne_eqb (position t) (position u) (λ q. n (position-inj t u q)))

pub sought-exchanges : {t : Table} {w key after : List ℕ} {x : Extent} {p : Place} {new : List (List ℕ)} → Sought w x key p → Exchanges t p.row
    (one_if p.present) new w after
    → Exchanges t (rows_before key (rows_in w x)) (one_if (is_held key (rows_in w x))) new w after
sought-exchanges s e = rw (← s.row_is, ← s.present_is) e

-- the key of a row, and a whole row as the rows that come in
abbrev pub row_key : Table → List ℕ → List ℕ
row_key t row = take (span (key_fields t) row) row

pub one-row : (t : Table) (row : List ℕ) → Octets row → faults (row_fields t) row ≡ none → one_row row ≡ row ∷ []
unfolding before
one-row t [] b f = clash (index-some t []) (sym (stands-nil t [] b f) ∙ ap (before []) (take-nil (span (key_fields t) [])))
one-row t (x ∷ row) b f = refl

-- ---- a whole row put, where it is held or the table has room

module _ (t : Table) (w row : List ℕ) (h : is_sound w ≡ true) (b : Octets w) (d : Octets row) (f : faults (row_fields t) row ≡ none)
    (n : is_held (row_key t row) (table_rows t w) ≡ false → length (table_rows t w) < limit t) where
  pub one_more : length (table_rows t w) + 1 ≤ limit t + one_if (is_held (row_key t row) (table_rows t w))
  one_more = split (is_held (row_key t row) (table_rows t w)) (λ e. rw e (omega (arith, (store-sound w h).few t))) (λ e. rw e (omega (arith, n e)))

  pub sound-put : {after : List ℕ} → Exchanges t (rows_before (row_key t row) (table_rows t w)) (one_if (is_held (row_key t row) (table_rows t w))) (row ∷ []) w after
      → is_sound after ≡ true
  sound-put {after} e = sound-exchanged t w (row_key t row) row (row ∷ []) b (store-sound w h) (key-of-row t row d f) (whole f refl) one_more after e

-- ---- a row removed

pub sound-removed : (t : Table) (w key : List ℕ) → is_sound w ≡ true → Octets w → Octets key → faults (key_fields t) key ≡ none → {after : List ℕ}
    → Exchanges t (rows_before key (table_rows t w)) (one_if (is_held key (table_rows t w))) [] w after → is_sound after ≡ true
sound-removed t w key h b d f {after} e =
    sound-exchanged t w key key [] b (store-sound w h) (key-of-key t key d f) nothing (omega (arith, (store-sound w h).few t)) after e
