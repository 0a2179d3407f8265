-- A group's circle as a part of the tables: each table with the circle's rows kept.
-- Rows of one index have the key fields by which the circle goes: an index leads with each name's length, so that the front of an index
-- tells the name. Beside it the facts that the members' and the owner's edits keep up: the tables ascend, members are mapped to the group,
-- and the group's access rows name chosen views or none. Assumes nothing.
use mathlib.Core.Path.{◌≡◌, refl}
use mathlib.Core.Bool.{Bool, true, false, ◌&&◌}
use mathlib.Core.List.{List, [], ◌∷◌, ◌++◌}
use Prim.Native.Nat.{ℕ}
use native.Mathlib.Nat.{suc_inj}
use native.Mathlib.Omega.{arith}
use lib.ListN.{length}
use Rattle.numbers.specs.Lists.{keep, every}
use Rattle.numbers.specs.Order.{same}
use Rattle.numbers.proofs.Bools.{clash}
use Rattle.numbers.proofs.Greatest.{Ascends}
use Rattle.rows.specs.declared.Table.{Table}
use Rattle.rows.specs.declared.Table.TheVariants.{Context, Mapping, Access, View}
use Rattle.rows.specs.Fields.{values, index}
use Rattle.rows.specs.Rows.{mapping_key, access_key, view_key, MappingRow, AccessRow, ViewRow, key_fields, index_of, field_at, number_at}
use Rattle.rows.specs.Tables.{Tables}
use Rattle.edit_rules.specs.TableRows.{RowOf, row_index, mapping_index, access_index, view_index, rows_of, tables_of, with_rows}
use Rattle.isolation.specs.Isolation.{Circle, key_in, row_in, implies, maps_to_group, gives_chosen}

pub implied : (a b : Bool) → implies a b ≡ true → a ≡ true → b ≡ true
implied true b e h = e
implied false b e h = clash h refl

-- ---- indices tell the fields that the circle goes by

append-same : (a b x y : List ℕ) → length a ≡ length b → a ++ x ≡ b ++ y → a ≡ b
append-same [] [] x y l e = refl
append-same [] (b ∷ bs) x y l e = let z : ⊥ = omega arith in absurd z
append-same (a ∷ xs) [] x y l e = let z : ⊥ = omega arith in absurd z
append-same (a ∷ xs) (b ∷ bs) x y l e =
    let ih : xs ≡ bs = append-same xs bs x y (suc_inj l) (cc) in let h : a ≡ b = cc in cc

sized_same : (a b x y : List ℕ) → length a ∷ (a ++ x) ≡ length b ∷ (b ++ y) → a ≡ b
sized_same a b x y e = append-same a b x y (cc) (cc)

module _ (w : Circle) where
  pub mapping-same : (model : ℕ) (name : List ℕ) (x : MappingRow) → index mapping_key ((model ∷ []) ∷ name ∷ []) ≡ mapping_index x
      → row_in w Mapping x ≡ w.member model name
  mapping-same model name x e =
      let p : x.security_model ≡ model = cc in
      let q : name ≡ x.security_name = sized_same name x.security_name [] [] (cc) in
      rw (p, q)

  pub access-same : (group prefix : List ℕ) (model level : ℕ) (x : AccessRow)
      → index access_key (group ∷ prefix ∷ (model ∷ []) ∷ (level ∷ []) ∷ []) ≡ access_index x → row_in w Access x ≡ same group w.group
  access-same group prefix model level x e = let p : group ≡ x.group_name = sized_same group x.group_name _ _ e in rw p

  pub view-same : (name subtree : List ℕ) (x : ViewRow) → index view_key (name ∷ subtree ∷ []) ≡ view_index x → row_in w View x ≡ w.chosen name
  view-same name subtree x e = let p : name ≡ x.view_name = sized_same name x.view_name _ _ e in rw p

  -- a row at the index of bytes is of the circle as these are
  pub key-same : (t : Table) (bytes : List ℕ) (x : RowOf t) → index_of t bytes ≡ row_index t x → row_in w t x ≡ key_in w t (values (key_fields t) bytes)
  unfolding key_fields
  key-same Context bytes x e = refl
  key-same Mapping bytes x e = let fs = values (key_fields Mapping) bytes in mapping-same (number_at 0 fs) (field_at 1 fs) x e
  key-same Access bytes x e =
      let fs = values (key_fields Access) bytes in access-same (field_at 0 fs) (field_at 1 fs) (number_at 2 fs) (number_at 3 fs) x e
  key-same View bytes x e = let fs = values (key_fields View) bytes in view-same (field_at 0 fs) (field_at 1 fs) x e

  -- ---- the circle's rows

  abbrev pub circle_rows : Tables → Tables
  circle_rows ts =
      tables_of (keep (row_in w Context) ts.vacm_context_table) (keep (row_in w Mapping) ts.vacm_security_to_group_table)
      (keep (row_in w Access) ts.vacm_access_table) (keep (row_in w View) ts.vacm_view_tree_family_table)

  pub rows-circle : (t : Table) (ts : Tables) → rows_of t (circle_rows ts) ≡ keep (row_in w t) (rows_of t ts)
  rows-circle Context ts = refl
  rows-circle Mapping ts = refl
  rows-circle Access ts = refl
  rows-circle View ts = refl

  pub with-circle : (t : Table) (ts : Tables) (rs : List (RowOf t)) → with_rows t (circle_rows ts) (keep (row_in w t) rs) ≡ circle_rows (with_rows t ts rs)
  with-circle Context ts rs = refl
  with-circle Mapping ts rs = refl
  with-circle Access ts rs = refl
  with-circle View ts rs = refl

  -- ---- what the members' and the owner's edits keep up

  abbrev pub row_fits : (t : Table) → RowOf t → Bool
  row_fits t r = implies (row_in w t r) (maps_to_group w t r && gives_chosen w t r)

  -- a table that ascends, and of which every row fits
  abbrev pub Fitting : (t : Table) → List (RowOf t) → Type 0
  Fitting t rs = Ascends (row_index t) rs × (every (row_fits t) rs ≡ true)

  pub record Orderly (ts : Tables) : Type 0 where
    pub contexts : Fitting Context ts.vacm_context_table
    pub mappings : Fitting Mapping ts.vacm_security_to_group_table
    pub accesses : Fitting Access ts.vacm_access_table
    pub views : Fitting View ts.vacm_view_tree_family_table

  pub orderly-at : (t : Table) {ts : Tables} → Orderly ts → Fitting t (rows_of t ts)
  orderly-at Context i = i.contexts
  orderly-at Mapping i = i.mappings
  orderly-at Access i = i.accesses
  orderly-at View i = i.views

  pub orderly-with : (t : Table) {ts : Tables} (rs : List (RowOf t)) → Orderly ts → Fitting t rs → Orderly (with_rows t ts rs)
  orderly-with Context rs i f = record { contexts = f; mappings = i.mappings; accesses = i.accesses; views = i.views }
  orderly-with Mapping rs i f = record { contexts = i.contexts; mappings = f; accesses = i.accesses; views = i.views }
  orderly-with Access rs i f = record { contexts = i.contexts; mappings = i.mappings; accesses = f; views = i.views }
  orderly-with View rs i f = record { contexts = i.contexts; mappings = i.mappings; accesses = i.accesses; views = f }

  pub orderly-of : {ts : Tables} → ((t : Table) → Fitting t (rows_of t ts)) → Orderly ts
  orderly-of f = record { contexts = f Context; mappings = f Mapping; accesses = f Access; views = f View }
