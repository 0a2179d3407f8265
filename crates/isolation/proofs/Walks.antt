-- Walks beside the circle.
-- The rows of a sound store have legal keys. So where a member's view refuses every instance outside the circle, no instance of a row held outside
-- follows, and the same instances follow whether or not that row is there. What the member may read goes by the circle's rows (`Decisions`). A walk
-- leaves the tables. Assumes nothing.
use mathlib.Core.Path.{◌≡◌, refl, sym, ap, ap₂, ◌∙◌}
use mathlib.Core.Bool.{Bool, true, cond, ◌&&◌}
use mathlib.Core.List.{List, [], ◌∷◌, ◌++◌, map}
use mathlib.Core.Option.{some}
use Prim.Native.Nat.{ℕ}
use lib.ListN.{length, take}
use Rattle.answers.specs.declared.Fault.TheVariants.{OutOfRange}
use Rattle.numbers.specs.BigEndian.{Octets}
use Rattle.numbers.specs.Lists.{keep, every}
use Rattle.numbers.specs.Order.{before}
use Rattle.numbers.proofs.Bools.{clash, and_left, and_right, and_both, test-ext, is_true}
use Rattle.numbers.proofs.Keeps.{keep-and, keep_append, keep-ext, keep-ext-on, keep-map}
use Rattle.rows.specs.declared.Table.{Table}
use Rattle.rows.specs.declared.Table.TheVariants.{Context, Mapping, Access, View}
use Rattle.rows.specs.Fields.{values, legals, index}
use Rattle.rows.specs.Rows.{key_fields, row_fields}
use Rattle.rows.specs.Tables.{Tables}
use Rattle.rows.proofs.Keys.{front-legal}
use Rattle.image.specs.Store.{held}
use Rattle.decision_steps.specs.Request.{asked, read}
use Rattle.instance_encode.specs.Instances.{columns, lists, instance}
use Rattle.instance_encode.proofs.Encoded.{columns-listed}
use Rattle.table_update.specs.Exchange.{table_rows}
use Rattle.table_update.proofs.Keys.{Whole}
use Rattle.table_update.proofs.Stores.{sound-whole}
use Rattle.edit_rules.specs.TableRows.{RowOf, row_of, row_index, values_of, rows_of}
use Rattle.edit_rules.specs.Edits.{Caller}
use Rattle.edit_rules.proofs.Outcomes.{rows_in_lem}
use Rattle.edit_rows.proofs.Stores.{store_rows, held-is}
use Rattle.walk_rules.specs.declared.Walked.TheVariants.{Faulty}
use Rattle.walk_rules.specs.Walk.{Instance, instance_of, of_columns, of_table, instances, is_allowed, may_read, follows, least, next_instance, refusal, reaching}
use Rattle.walk_rules.specs.Walk.{if_viewed, legal_walk, walk_on}
use Rattle.isolation.specs.Isolation.{Circle, key_in, row_in, is_member, RefusesOutside}
use Rattle.isolation.proofs.Circles.{circle_rows, rows-circle, Orderly}
use Rattle.isolation.proofs.Decisions.{authority-keep, decision-keep}

-- ---- the rows of a sound store have legal keys

-- the fields of a row's key are its first
abbrev key_of : (t : Table) → RowOf t → List (List ℕ)
key_of t r = take (length (key_fields t)) (values_of t r)

key-read : (t : Table) (bytes : List ℕ) → key_of t (row_of t bytes) ≡ values (key_fields t) bytes
unfolding key_fields row_fields
key-read Context bytes = refl
key-read Mapping bytes = refl
key-read Access bytes = refl
key-read View bytes = refl

key-index : (t : Table) (r : RowOf t) → index (key_fields t) (key_of t r) ≡ row_index t r
unfolding key_fields
key-index Context r = refl
key-index Mapping r = refl
key-index Access r = refl
key-index View r = refl

key_in_lem : (w : Circle) (t : Table) (r : RowOf t) → key_in w t (key_of t r) ≡ row_in w t r
unfolding key_fields
key_in_lem w Context r = refl
key_in_lem w Mapping r = refl
key_in_lem w Access r = refl
key_in_lem w View r = refl

abbrev has_key : (t : Table) → RowOf t → Bool
has_key t r = legals (key_fields t) (key_of t r)

abbrev pub LegalKeys : Tables → Type 0
LegalKeys ts = (t : Table) → every (has_key t) (rows_of t ts) ≡ true

legal-rows : (t : Table) (rs : List (List ℕ)) → Whole t rs → every (has_key t) (map (row_of t) rs) ≡ true
legal-rows t [] a = refl
legal-rows t (r ∷ rs) a = and_both (ap (legals (key_fields t)) (key-read t r) ∙ front-legal t r a.0 a.1) (legal-rows t rs a.2)

pub held-legal : (s : List ℕ) → Octets s → {ts : Tables} → held s ≡ some ts → LegalKeys ts
held-legal s b e t =
    let h = held-is s e in
    rw (h.1, rows_in_lem (store_rows s) t) (legal-rows t (table_rows t s) (sound-whole t s h.0 b))

-- ---- a test that fails outside the circle picks the same from the circle's rows as from all

module _ (w : Circle) (ts : Tables) (l : LegalKeys ts) (test : Instance → Bool) where
  -- of every legal key and listed column
  abbrev Inside : Type 0
  Inside = (t : Table) (r : RowOf t) (column : ℕ) → has_key t r ≡ true → lists t column ≡ true → test (instance_of t column r) ≡ true → row_in w t r ≡ true

  module _ (inside : Inside) where
    column-circle : (t : Table) (column : ℕ) → lists t column ≡ true
        → keep test (map (instance_of t column) (keep (row_in w t) (rows_of t ts))) ≡ keep test (map (instance_of t column) (rows_of t ts))
    column-circle t column o =
        let p = row_in w t in
        let q : RowOf t → Bool = λ r. test (instance_of t column r) in
        let rs = rows_of t ts in
        keep-map (instance_of t column) test (keep p rs)
        ∙ ap (map (instance_of t column))
        (keep-and p q rs ∙ keep-ext-on (has_key t) (λ r. p r && q r) q
        (λ r k. test-ext (p r && q r) (q r) (and_right (p r) (q r)) (λ e. and_both (inside t r column k o e) e)) rs (l t))
        ∙ sym (keep-map (instance_of t column) test rs)

    columns-circle : (t : Table) (cs : List ℕ) → every (lists t) cs ≡ true
        → keep test (of_columns t (keep (row_in w t) (rows_of t ts)) cs) ≡ keep test (of_columns t (rows_of t ts) cs)
    columns-circle t [] o = refl
    columns-circle t (c ∷ cs) o =
        let f = instance_of t c in
        let rs = rows_of t ts in
        let some = keep (row_in w t) rs in
        let ih = columns-circle t cs (and_right (lists t c) _ o) in
        keep_append test (map f some) (of_columns t some cs)
        ∙ ap₂ (λ (a b : List Instance). a ++ b) (column-circle t c (and_left _ _ o)) ih
        ∙ sym (keep_append test (map f rs) (of_columns t rs cs))

    table-circle : (t : Table) → keep test (of_table (circle_rows w ts) t) ≡ keep test (of_table ts t)
    table-circle t =
        ap (λ rs. keep test (of_columns t rs (columns t))) (rows-circle w t ts) ∙ columns-circle t (columns t) (columns-listed t)

    join-circle : (a b c d : List Instance) → keep test a ≡ keep test b → keep test c ≡ keep test d → keep test (a ++ c) ≡ keep test (b ++ d)
    join-circle a b c d p q = keep_append test a c ∙ ap₂ (λ (x y : List Instance). x ++ y) p q ∙ sym (keep_append test b d)

    instances-circle : keep test (instances (circle_rows w ts)) ≡ keep test (instances ts)
    instances-circle =
        let u = circle_rows w ts in
        join-circle (of_table u Context) (of_table ts Context) _ _ (table-circle Context)
        (join-circle (of_table u Mapping) (of_table ts Mapping) _ _ (table-circle Mapping)
        (join-circle (of_table u Access) (of_table ts Access) (of_table u View) (of_table ts View) (table-circle Access) (table-circle View)))

-- ---- a member's walk

module _ (w : Circle) (ts : Tables) (c : Caller) (i : Orderly w ts) (m : is_member w c ≡ true) where
  read-circle : (variable : List ℕ) → may_read (circle_rows w ts) c variable ≡ may_read ts c variable
  unfolding may_read
  read-circle variable =
      ap is_allowed (decision-keep w ts i (asked c.security_model c.security_name c.security_level read [] variable) m)

  module _ (identifier : List ℕ) (l : LegalKeys ts) (refuses : RefusesOutside w ts c) where
    follows-circle : (x : Instance) → follows (circle_rows w ts) c identifier x ≡ follows ts c identifier x
    unfolding follows
    follows-circle x = ap (λ b. before identifier x.identifier && b) (read-circle x.identifier)

    -- what follows is of the circle
    follows-inside : (t : Table) (r : RowOf t) (column : ℕ) → has_key t r ≡ true → lists t column ≡ true
        → follows ts c identifier (instance_of t column r) ≡ true → row_in w t r ≡ true
    unfolding follows
    follows-inside t r column k o f =
        is_true (row_in w t r) (λ out.
        clash (and_right (before identifier (instance t column (row_index t r))) _ f)
        (ap (λ x. may_read ts c (instance t column x)) (sym (key-index t r)) ∙ refuses t (key_of t r) column k o (key_in_lem w t r ∙ out)))

    next-circle : next_instance (circle_rows w ts) c identifier ≡ next_instance ts c identifier
    unfolding next_instance
    next-circle =
        ap least (keep-ext (follows (circle_rows w ts) c identifier) (follows ts c identifier) (instances (circle_rows w ts)) follows-circle
        ∙ instances-circle w ts l (follows ts c identifier) follows-inside)

    pub walk-shared : walk_on (circle_rows w ts) c identifier ≡ walk_on ts c identifier
    unfolding walk_on
    walk-shared =
        ap₂ (λ a o. cond (legal_walk c identifier) (if_viewed a (reaching o)) (refusal (Faulty OutOfRange)))
        (authority-keep w ts i c.security_model c.security_name c.security_level read [] m) next-circle
