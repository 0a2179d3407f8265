-- Rows exchanged at a key's place, as rows of any type that has the same index: a row put in its place by index, the row with an index
-- removed, the row with an index found. Each goes along the rows, by how the next row stands to the key: those before it have a lower
-- index, and the first that has not is the place. Only that no row further on has the index wants ascending rows. Assumes nothing.
use mathlib.Core.Path.{◌≡◌, refl, sym, ap, subst, ◌∙◌}
use mathlib.Core.Bool.{true, false, cond}
use mathlib.Core.List.{List, [], ◌∷◌, map}
use mathlib.Core.Option.{none, some}
use Prim.Native.Nat.{ℕ}
use native.Mathlib.Nat.{suc-add}
use lib.ListN.{get_or}
use Rattle.numbers.specs.Lists.{find}
use Rattle.numbers.specs.Order.{same, before}
use Rattle.numbers.proofs.Bools.{clash, cond-true, cond-false}
use Rattle.numbers.proofs.Orders.{same-eq, same-sym, before-asym, before-not-same}
use Rattle.numbers.proofs.Greatest.{Under, Ascends, under-trans}
use Rattle.rows.specs.declared.Table.{Table}
use Rattle.rows.specs.declared.Table.TheVariants.{Context, Mapping, Access, View}
use Rattle.rows.specs.Fields.{faults, index}
use Rattle.rows.specs.Rows.{key_fields, row_fields, context_key, context_fields, context_of, mapping_key, mapping_fields, mapping_of, access_key, access_fields}
use Rattle.rows.specs.Rows.{access_of, view_key, view_fields, view_of, index_of}
use Rattle.numbers.specs.BigEndian.{Octets}
use Rattle.table_update.specs.Exchange.{one_if, rows_before, is_held, exchanged}
use Rattle.table_update.specs.Tables.{row_at, put_row, remove_row}
use Rattle.table_update.proofs.Keys.{KeyOf, Stand, lower, equal, upper, stands, Whole}

lower-same : (i j : List ℕ) → before j i ≡ true → same i j ≡ false
lower-same i j b = same-sym i j ∙ before-not-same j i b

module _ {R : Type 0} (of : List ℕ → R) (index_r : R → List ℕ) where
  -- one row
  module _ {key i r : List ℕ} (rs : List (List ℕ)) where
    put_step : (row : List ℕ) → index_r (of row) ≡ i → Stand key i r (index_r (of r))
        → map of (exchanged (rows_before key rs) (one_if (is_held key rs)) (row ∷ []) rs) ≡ put_row index_r (of row) (map of rs)
        → map of (exchanged (rows_before key (r ∷ rs)) (one_if (is_held key (r ∷ rs))) (row ∷ []) (r ∷ rs)) ≡ put_row index_r (of row) (map of (r ∷ rs))
    unfolding rows_before is_held
    put_step row e (lower b l) ih =
        rw (b, e, lower-same i (index_r (of r)) l, before-asym (index_r (of r)) i l, suc-add (rows_before key rs) (one_if (is_held key rs))) (ap (λ v. of r ∷ v) ih)
    put_step row e (equal b s l) ih = rw (b, s, e, same-eq i (index_r (of r)) (sym l))
    put_step row e (upper b s l) ih = rw (b, s, e, before-not-same i (index_r (of r)) l, l)

    remove-step : Stand key i r (index_r (of r)) → is_held key (r ∷ rs) ≡ true
        → (is_held key rs ≡ true → map of (exchanged (rows_before key rs) 1 [] rs) ≡ remove_row index_r i (map of rs))
        → map of (exchanged (rows_before key (r ∷ rs)) 1 [] (r ∷ rs)) ≡ remove_row index_r i (map of (r ∷ rs))
    unfolding rows_before is_held
    remove-step (lower b l) h ih =
        rw (b, lower-same i (index_r (of r)) l, suc-add (rows_before key rs) 1) (ap (λ v. of r ∷ v) (ih (rw b at h)))
    remove-step (equal b s l) h ih = rw (b, same-eq i (index_r (of r)) (sym l))
    remove-step (upper b s l) h ih = clash (rw (b, s) at h) refl

    at-step : Stand key i r (index_r (of r)) → (before i (index_r (of r)) ≡ true → find (λ x. same i (index_r x)) (map of rs) ≡ none)
        → row_at index_r i (map of rs) ≡ cond (is_held key rs) (some (of (get_or rs (rows_before key rs) []))) none
        → row_at index_r i (map of (r ∷ rs)) ≡ cond (is_held key (r ∷ rs)) (some (of (get_or (r ∷ rs) (rows_before key (r ∷ rs)) []))) none
    unfolding rows_before is_held
    at-step (lower b l) n ih = rw (b, lower-same i (index_r (of r)) l) ih
    at-step (equal b s l) n ih = rw (b, s, same-eq i (index_r (of r)) (sym l))
    at-step (upper b s l) n ih = rw (b, s, before-not-same i (index_r (of r)) l) (n l)

-- rows of table t, read as rows whose index is the one that their bytes hold, and the key of index i
module _ (t : Table) {R : Type 0} (of : List ℕ → R) (index_r : R → List ℕ) (e : (r : List ℕ) → index_r (of r) ≡ index_of t r) {key i : List ℕ}
    (k : KeyOf t key i) where
  stand : (r : List ℕ) → Octets r → faults (row_fields t) r ≡ none → Stand key i r (index_r (of r))
  stand r b f = subst (λ j. Stand key i r j) (sym (e r)) (stands (k r b f))

  pub put-rows : (row : List ℕ) → index_of t row ≡ i → (rs : List (List ℕ)) → Whole t rs
      → map of (exchanged (rows_before key rs) (one_if (is_held key rs)) (row ∷ []) rs) ≡ put_row index_r (of row) (map of rs)
  unfolding rows_before is_held
  put-rows row h [] a = refl
  put-rows row h (r ∷ rs) a = put_step of index_r rs row (e row ∙ h) (stand r a.0 a.1) (put-rows row h rs a.2)

  pub remove-rows : (rs : List (List ℕ)) → Whole t rs → is_held key rs ≡ true
      → map of (exchanged (rows_before key rs) 1 [] rs) ≡ remove_row index_r i (map of rs)
  unfolding is_held
  remove-rows [] a h = clash h refl
  remove-rows (r ∷ rs) a h = remove-step of index_r rs (stand r a.0 a.1) h (remove-rows rs a.2)

  -- the same, with as many rows gone as are held
  pub removed-rows : (rs : List (List ℕ)) → Whole t rs → is_held key rs ≡ true
      → map of (exchanged (rows_before key rs) (one_if (is_held key rs)) [] rs) ≡ remove_row index_r i (map of rs)
  removed-rows rs a h = ap (λ b. map of (exchanged (rows_before key rs) (one_if b) [] rs)) h ∙ remove-rows rs a h

  none-under : (rs : List (List ℕ)) → Under (index_of t) i rs → find (λ x. same i (index_r x)) (map of rs) ≡ none
  none-under [] u = refl
  none-under (r ∷ rs) u = rw (e r, before-not-same i (index_of t r) u.0) (none-under rs u.1)

  pub row-at : (rs : List (List ℕ)) → Whole t rs → Ascends (index_of t) rs
      → row_at index_r i (map of rs) ≡ cond (is_held key rs) (some (of (get_or rs (rows_before key rs) []))) none
  unfolding is_held
  row-at [] a s = refl
  row-at (r ∷ rs) a s =
      at-step of index_r rs (stand r a.0 a.1) (λ l. none-under rs (under-trans (index_of t) i (index_of t r) rs (rw (e r) at l) s.0))
      (row-at rs a.2 s.1)

  pub row-held : (rs : List (List ℕ)) → Whole t rs → Ascends (index_of t) rs → is_held key rs ≡ true
      → row_at index_r i (map of rs) ≡ some (of (get_or rs (rows_before key rs) []))
  row-held rs a s h = row-at rs a s ∙ cond-true _ _ h

  pub row-absent : (rs : List (List ℕ)) → Whole t rs → Ascends (index_of t) rs → is_held key rs ≡ false → row_at index_r i (map of rs) ≡ none
  row-absent rs a s h = row-at rs a s ∙ cond-false _ _ h

-- ---- the rows of the four tables have the index that their bytes hold

pub context-index : (v : List ℕ) → index context_key (context_fields (context_of v)) ≡ index_of Context v
unfolding key_fields row_fields
context-index v = refl

pub mapping-index : (v : List ℕ) → index mapping_key (mapping_fields (mapping_of v)) ≡ index_of Mapping v
unfolding key_fields row_fields
mapping-index v = refl

pub access-index : (v : List ℕ) → index access_key (access_fields (access_of v)) ≡ index_of Access v
unfolding key_fields row_fields
access-index v = refl

pub view-index : (v : List ℕ) → index view_key (view_fields (view_of v)) ≡ index_of View v
unfolding key_fields row_fields
view-index v = refl
