-- An edit of a sound store's tables, by what is known of the place of the key.
-- One table first, over any row type that has the index of the bytes and, for a principal, their storage: whether a row with the index is
-- held is whether the place holds one, so that what stands against the edit is what stands against it at the place, and the rows that stand
-- afterwards are the rows' bytes exchanged there. The four tables are four instances, and exchanging in one leaves the others as they are.
-- Assumes nothing.
use mathlib.Core.Path.{◌≡◌, refl, sym, ap, ap₂, ◌∙◌}
use mathlib.Core.Bool.{Bool, true, false, cond, not, ◌&&◌}
use mathlib.Core.List.{List, [], ◌∷◌, map}
use mathlib.Core.Option
use mathlib.Core.Option.{Option, none, some}
use Prim.Native.Nat.{ℕ}
use native.Mathlib.Omega.{arith}
use lib.Dec.{leb}
use lib.ListN.{length, get_or, length-map}
use lib.Seq.{take_all}
use Rattle.std.specs.Prelude.{Ok, Err}
use Rattle.answers.specs.declared.Refusal.{Refusal}
use Rattle.answers.specs.declared.Refusal.TheVariants.{Barred, Faulty}
use Rattle.answers.specs.declared.Fault.{Fault}
use Rattle.answers.specs.declared.Fault.TheVariants.{StorageForbids}
use Rattle.numbers.specs.Lists.{is_none}
use Rattle.numbers.proofs.Bools.{split}
use Rattle.numbers.proofs.Greatest.{Ascends, ascends-map, ascends-imp}
use Rattle.numbers.proofs.Keeps.{every-all}
use Rattle.edit_rules.specs.declared.Operation.{Operation}
use Rattle.edit_rules.specs.declared.Operation.TheVariants.{Create, Change, Remove}
use Rattle.rows.specs.declared.Shape.{Shape}
use Rattle.rows.specs.declared.Shape.TheVariants.{Row, Key}
use Rattle.rows.specs.declared.Table.{Table}
use Rattle.rows.specs.declared.Table.TheVariants.{Context, Mapping, Access, View}
use Rattle.rows.specs.Fields.{faults, span, or_else}
use Rattle.rows.specs.Rows.{key_fields, row_fields, fields_of, limit, context_of, mapping_of, access_of, view_of, index_of}
use Rattle.rows.specs.Tables.{Tables}
use Rattle.rows.proofs.Inverse.{span-whole}
use Rattle.numbers.specs.BigEndian.{Octets}
use Rattle.table_update.specs.Exchange.{one_if, rows_before, is_held, exchanged, exchanged_in}
use Rattle.table_update.specs.Tables.{row_at}
use Rattle.table_update.proofs.Keys.{KeyOf, Whole, key-of-row, key-of-key}
use Rattle.table_update.proofs.Typed.{put-rows, removed-rows, row-at, context-index, mapping-index, access-index, view-index}
use Rattle.table_update.proofs.Stores.{row_key}
use Rattle.edit_rules.specs.Types.{Edited}
use Rattle.edit_rules.specs.TableRows.{volatile, row_of, row_index, storage_of, rows_of, tables_of, with_rows}
use Rattle.edit_rules.specs.Edits.{Edit, Outcome, outcome, edit_of, shape_of, is_create, index_of_edit, may_put, may_remove, storage_lets, presence_fault}
use Rattle.edit_rules.specs.Edits.{held_fault, row_fault, is_full, rows_after, applied, settled, faulted, edit, is_context}
use Rattle.edit_rules.specs.Storage.{storage_in, may_edit, place_fault, placed, full_at}
use Rattle.edit_rules.proofs.Storages.{row-storage, whole-held, storage_found}

-- the rows that come into a table
abbrev pub comes : Shape → List ℕ → List (List ℕ)
comes Row bytes = bytes ∷ []
comes Key bytes = []

-- what is left after an answer: the new, or the old as it was
abbrev pub afterwards : Tables → Tables → Edited → Tables
afterwards new old (Ok tt) = new
afterwards new old (Err (Barred c)) = old
afterwards new old (Err (Faulty f)) = old

abbrev pub judged : Tables → Tables → Edited → Outcome
judged new old r = outcome r (afterwards new old r)

pub done-refused : {r : Refusal} → ◌≡◌ {A = Edited} (Ok tt) (Err r) → ⊥
done-refused e = let z : ◌≡◌ {A = ℕ} 0 1 = cc e in omega arith

pub faulty-done : {f : Fault} → ◌≡◌ {A = Edited} (Err (Faulty f)) (Ok tt) → ⊥
faulty-done e = let z : ◌≡◌ {A = ℕ} 0 1 = cc e in omega arith

-- ---- the storage rules: where no row is held, those of a volatile row

storage-same : (y : Shape) (held : Bool) {old old' new new' : ℕ} → (held ≡ true → old ≡ old') → (y ≡ Row → new ≡ new')
    → storage_lets y (cond held (some old) none) new ≡ may_edit y (cond held old' volatile) new'
unfolding may_put may_remove
storage-same Row true p q = rw (p refl, q refl)
storage-same Row false p q = rw (q refl)
storage-same Key true p q = rw (p refl)
storage-same Key false p q = refl

some-cond : {A : Type 0} (b : Bool) (x : A) → not (is_none (cond b (some x) none)) ≡ b
some-cond true x = refl
some-cond false x = refl

fault-same : (strict : Bool) (o : Operation) (held : Bool) {old old' new new' : ℕ} → (strict ≡ true → held ≡ true → old ≡ old')
    → (strict ≡ true → shape_of o ≡ Row → new ≡ new')
    → held_fault strict o (cond held (some old) none) new ≡ place_fault strict o held (cond held old' volatile) new'
fault-same false o held {old} p q = ap (λ b. or_else (presence_fault o b) none) (some-cond held old)
fault-same true o held {old} p q =
    ap₂ (λ b l. or_else (presence_fault o b) (cond (not l) (some StorageForbids) none)) (some-cond held old)
    (storage-same (shape_of o) held (p refl) (q refl))

-- a removal against which nothing stands is of a row that is held
removal-held : (strict : Bool) (o : Operation) (old new : ℕ) (held : Bool) → shape_of o ≡ Key → place_fault strict o held old new ≡ none → held ≡ true
removal-held strict o old new true s e = refl
removal-held strict Create old new false s e = cc
removal-held strict Change old new false s e = cc
removal-held strict Remove old new false s e = cc

-- ---- one table

map-cond : {A B : Type 0} (f : A → B) (b : Bool) (x : A) → Option.map f (cond b (some x) none) ≡ cond b (some (f x)) none
map-cond f true x = refl
map-cond f false x = refl

module _ {R : Type 0} (t : Table) (of : List ℕ → R) (index_r : R → List ℕ) (e : (r : List ℕ) → index_r (of r) ≡ index_of t r) (rs : List (List ℕ))
    (a : Whole t rs) (s : Ascends (index_of t) rs) (key bytes : List ℕ) (k : KeyOf t key (index_of t bytes)) where
  abbrev found : List ℕ
  found = get_or rs (rows_before key rs) []

  held-is : row_at index_r (index_of t bytes) (map of rs) ≡ cond (is_held key rs) (some (of found)) none
  held-is = row-at t of index_r e k rs a s

  fault-is : (storage : R → ℕ) (strict : Bool) (o : Operation) → (strict ≡ true → (r : List ℕ) → faults (row_fields t) r ≡ none → storage (of r) ≡ storage_in r)
      → faults (fields_of (shape_of o) t) bytes ≡ none
      → held_fault strict o (Option.map storage (row_at index_r (index_of t bytes) (map of rs))) (storage (of bytes))
      ≡ place_fault strict o (is_held key rs) (storage_found key rs) (storage_in bytes)
  fault-is storage strict o q f =
      ap (λ u. held_fault strict o u (storage (of bytes))) (ap (Option.map storage) held-is ∙ map-cond storage (is_held key rs) (of found))
      ∙ fault-same strict o (is_held key rs) (λ y h. q y found (whole-held t key rs a h)) (λ y z. q y bytes (put_whole z))
    where
      put_whole : shape_of o ≡ Row → faults (row_fields t) bytes ≡ none
      put_whole z = rw z at f

  rows_are : (y : Shape) → (y ≡ Key → is_held key rs ≡ true)
      → rows_after index_r y (of bytes) (index_of t bytes) (map of rs) ≡ map of (exchanged (rows_before key rs) (one_if (is_held key rs)) (comes y bytes) rs)
  rows_are Row h = sym (put-rows t of index_r e k bytes refl rs a)
  rows_are Key h = sym (removed-rows t of index_r e k rs a (h refl))

-- ---- the four tables of rows in bytes

abbrev pub tables : (Table → List (List ℕ)) → Tables
tables rs = tables_of (map context_of (rs Context)) (map mapping_of (rs Mapping)) (map access_of (rs Access)) (map view_of (rs View))

pub tables-ext : (rs us : Table → List (List ℕ)) → ((t : Table) → rs t ≡ us t) → tables rs ≡ tables us
tables-ext rs us h = rw (h Context, h Mapping, h Access, h View)

-- with rows exchanged in one of them
abbrev pub changed : Table → ℕ → ℕ → List (List ℕ) → (Table → List (List ℕ)) → Tables
changed t i gone new rs = tables (λ u. exchanged_in t u i gone new (rs u))

pub row-index : (t : Table) (bytes : List ℕ) → row_index t (row_of t bytes) ≡ index_of t bytes
row-index Context = context-index
row-index Mapping = mapping-index
row-index Access = access-index
row-index View = view-index

pub own-index : (e : Edit) → row_index e.table (row_of e.table e.bytes) ≡ index_of_edit e
unfolding index_of_edit
own-index e = row-index e.table e.bytes

-- rows ascend as their bytes do
pub rows-ascend : (t : Table) (rs : List (List ℕ)) → Ascends (index_of t) rs → Ascends (row_index t) (map (row_of t) rs)
rows-ascend t rs a =
    ascends-map (row_index t) (row_of t) rs
    (ascends-imp (λ r. true) (index_of t) (λ r. row_index t (row_of t r)) (λ x y p q h. rw (row-index t x, row-index t y) h) rs
    (every-all (λ r. true) rs (λ r. refl)) a)

module _ (rs : Table → List (List ℕ)) where
  pub rows_in_lem : (t : Table) → rows_of t (tables rs) ≡ map (row_of t) (rs t)
  rows_in_lem Context = refl
  rows_in_lem Mapping = refl
  rows_in_lem Access = refl
  rows_in_lem View = refl

  with-exchanged : (t : Table) (i gone : ℕ) (new : List (List ℕ))
      → with_rows t (tables rs) (map (row_of t) (exchanged i gone new (rs t))) ≡ changed t i gone new rs
  with-exchanged Context i gone new = refl
  with-exchanged Mapping i gone new = refl
  with-exchanged Access i gone new = refl
  with-exchanged View i gone new = refl

-- ---- the key of what is handed

pub key-whole : (t : Table) (key : List ℕ) → faults (key_fields t) key ≡ none → row_key t key ≡ key
key-whole t key f = take_all (span (key_fields t) key) key (omega (arith, span-whole (key_fields t) key f))

pub key_of : (y : Shape) (t : Table) (bytes : List ℕ) → Octets bytes → faults (fields_of y t) bytes ≡ none → KeyOf t (row_key t bytes) (index_of t bytes)
key_of Row t bytes d f = key-of-row t bytes d f
key_of Key t bytes d f = rw (key-whole t bytes f) (key-of-key t bytes d f)

-- ---- an edit of the four tables

module _ (rs : Table → List (List ℕ)) (a : (t : Table) → Whole t (rs t)) (s : (t : Table) → Ascends (index_of t) (rs t)) (strict : Bool) (t : Table)
    (n : strict ≡ true → is_context t ≡ false) (bytes : List ℕ) (d : Octets bytes) (o : Operation)
    (f : faults (fields_of (shape_of o) t) bytes ≡ none) where
  abbrev key : List ℕ
  key = row_key t bytes

  abbrev present : Bool
  present = is_held key (rs t)

  abbrev pub fault_at : Option Fault
  fault_at = place_fault strict o present (storage_found key (rs t)) (storage_in bytes)

  abbrev pub full_in : Bool
  full_in = full_at o (limit t) (length (rs t))

  abbrev pub after : Tables
  after = changed t (rows_before key (rs t)) (one_if present) (comes (shape_of o) bytes) rs

  pub fault-here : row_fault strict (tables rs) (edit_of o t bytes) ≡ fault_at
  unfolding row_fault index_of_edit
  fault-here =
      ap (λ us. held_fault strict o (Option.map (storage_of t) (row_at (row_index t) (index_of t bytes) us)) (storage_of t (row_of t bytes))) (rows_in_lem rs t)
      ∙ fault-is t (row_of t) (row_index t) (row-index t) (rs t) (a t) (s t) key bytes (key_of (shape_of o) t bytes d f) (storage_of t) strict o
      (λ y. row-storage t (n y)) f

  full-here : is_full (tables rs) (edit_of o t bytes) ≡ full_in
  unfolding is_full
  full-here = ap (λ n. is_create o && leb (limit t) n) (ap length (rows_in_lem rs t) ∙ length-map (rs t) (row_of t))

  applied-here : fault_at ≡ none → applied (tables rs) (edit_of o t bytes) ≡ after
  unfolding applied index_of_edit
  applied-here z =
      ap (λ us. with_rows t (tables rs) (rows_after (row_index t) (shape_of o) (row_of t bytes) (index_of t bytes) us)) (rows_in_lem rs t)
      ∙ ap (with_rows t (tables rs))
      (rows_are t (row_of t) (row_index t) (row-index t) (rs t) (a t) (s t) key bytes (key_of (shape_of o) t bytes d f) (shape_of o) removed)
      ∙ with-exchanged rs t (rows_before key (rs t)) (one_if present) (comes (shape_of o) bytes)
    where
      removed : shape_of o ≡ Key → present ≡ true
      removed y = removal-held strict o (storage_found key (rs t)) (storage_in bytes) present y z

  -- judged, then room, then applied
  settled_here : (g : Option Fault) → g ≡ fault_at
      → settled (faulted g) (tables rs) (edit_of o t bytes) ≡ judged after (tables rs) (placed g full_in)
  settled_here (some g) z = refl
  settled_here none z =
      rw (full-here, applied-here (sym z))
      (split full_in (λ h. rw h) (λ h. rw h))

  pub edit-change : edit strict (tables rs) (edit_of o t bytes) ≡ judged after (tables rs) (placed fault_at full_in)
  unfolding edit
  edit-change = ap (λ g. settled (faulted g) (tables rs) (edit_of o t bytes)) fault-here ∙ settled_here fault_at refl
