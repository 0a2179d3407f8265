-- Edits of different rows, applied.
-- An edit puts its row or takes it away at its own index and leaves the row at every other (`held_after`); a table that ascends stays so; so two edits of
-- different rows may be applied in either order: in different tables they do not meet, and in one the rows are equal at each index. An edit that is
-- in order makes its table one row longer, shorter, or neither. Assumes nothing.
use mathlib.Core.Path.{◌≡◌, refl, sym, ap, subst, ◌∙◌}
use mathlib.Core.Bool.{true, false, cond, not, ◌&&◌, and-true, and-false}
use mathlib.Core.List.{List}
use mathlib.Core.Option.{none, some}
use Prim.Native.Nat.{ℕ, ◌+◌}
use native.Mathlib.Omega.{arith}
use lib.ListN.{length}
use Rattle.answers.specs.declared.Fault.TheVariants.{RowAbsent, RowHeld}
use Rattle.numbers.specs.Lists.{is_none}
use Rattle.numbers.specs.Order.{same}
use Rattle.numbers.proofs.Bools.{split, clash, cond-true, cond-false}
use Rattle.numbers.proofs.Options.{is-none}
use Rattle.numbers.proofs.Orders.{same_true, same-eq, same_refl, same-sym, eqb-sym}
use Rattle.numbers.proofs.Greatest.{Ascends}
use Rattle.numbers.proofs.Ascending.{ascends_same}
use Rattle.rows.specs.declared.Shape.{Shape}
use Rattle.rows.specs.declared.Shape.TheVariants.{Row, Key}
use Rattle.rows.specs.declared.Table.{Table}
use Rattle.rows.specs.declared.Table.TheVariants.{Context, Mapping, Access, View}
use Rattle.rows.specs.Rows.{index_of}
use Rattle.rows.specs.Tables.{Tables}
use Rattle.table_update.specs.Exchange.{position, one_if}
use Rattle.table_update.specs.Tables.{row_at}
use Rattle.table_update.proofs.RowsAt.{row_at-put, row_at-remove, put-more, put-as-many, remove-less, ascends_put, ascends-remove}
use Rattle.edit_rules.specs.declared.Operation.{Operation}
use Rattle.edit_rules.specs.declared.Operation.TheVariants.{Create, Change, Remove}
use Rattle.edit_rules.specs.TableRows.{RowOf, row_of, row_index, rows_of, with_rows}
use Rattle.edit_rules.specs.Edits.{Edit, edit_of, shape_of, is_create, index_of_edit, row_held, presence_fault, rows_after, applied}
use Rattle.edit_rules.proofs.Outcomes.{own-index}
use Rattle.set_rules.specs.Sets.{same_table, creates_in}
use Rattle.set_rules.specs.Made.{is_removal, removes_in}
use Rattle.set_rules.specs.AllOrNone.{standing}
use Rattle.set_rules.proofs.Keys.{same-table, Apart}

-- ---- one table

module _ {R : Type 0} (index_of : R → List ℕ) where
  row_at-after : (s : Shape) (r : R) (i : List ℕ) → index_of r ≡ i → (xs : List R) → Ascends index_of xs → (j : List ℕ)
      → row_at index_of j (rows_after index_of s r i xs) ≡ cond (same j i) (standing s r) (row_at index_of j xs)
  row_at-after Row r i e xs a j = row_at-put index_of j r xs ∙ ap (λ k. cond (same j k) (some r) (row_at index_of j xs)) e
  row_at-after Key r i e xs a j = row_at-remove index_of i j xs a

  pub ascends-after : (s : Shape) (r : R) (i : List ℕ) (xs : List R) → Ascends index_of xs → Ascends index_of (rows_after index_of s r i xs)
  ascends-after Row r i xs a = ascends_put index_of r xs a
  ascends-after Key r i xs a = ascends-remove index_of i xs a

  -- in either order
  swapped : {A : Type 0} (i j k : List ℕ) (x y z : A) → same i k ≡ false → cond (same j i) x (cond (same j k) y z) ≡ cond (same j k) y (cond (same j i) x z)
  swapped i j k x y z n =
      split (same j i)
      (λ p. split (same j k) (λ q. clash (same-eq i k (sym (same_true j i p) ∙ same_true j k q)) n) (λ q. rw (p, q)))
      (λ p. rw p)

  after-swap : (s s' : Shape) (r r' : R) (i i' : List ℕ) → index_of r ≡ i → index_of r' ≡ i' → same i i' ≡ false → (xs : List R) → Ascends index_of xs
      → rows_after index_of s' r' i' (rows_after index_of s r i xs) ≡ rows_after index_of s r i (rows_after index_of s' r' i' xs)
  after-swap s s' r r' i i' e e' n xs a =
      let b = ascends-after s r i xs a in
      let b' = ascends-after s' r' i' xs a in
      ascends_same index_of _ _ (ascends-after s' r' i' _ b) (ascends-after s r i _ b')
      (λ z.
      let j = index_of z in
      row_at-after s' r' i' e' _ b j ∙ ap (cond (same j i') (standing s' r')) (row_at-after s r i e xs a j)
      ∙ sym (swapped i j i' (standing s r) (standing s' r') (row_at index_of j xs) n)
      ∙ sym (row_at-after s r i e _ b' j ∙ ap (cond (same j i) (standing s r)) (row_at-after s' r' i' e' xs a j)))

-- ---- the four tables

rows-own : (t : Table) (ts : Tables) (rs : List (RowOf t)) → rows_of t (with_rows t ts rs) ≡ rs
rows-own Context ts rs = refl
rows-own Mapping ts rs = refl
rows-own Access ts rs = refl
rows-own View ts rs = refl

with-twice : (t : Table) (ts : Tables) (rs ss : List (RowOf t)) → with_rows t (with_rows t ts rs) ss ≡ with_rows t ts ss
with-twice Context ts rs ss = refl
with-twice Mapping ts rs ss = refl
with-twice Access ts rs ss = refl
with-twice View ts rs ss = refl

rows_other : (t u : Table) (ts : Tables) (rs : List (RowOf t)) → same_table t u ≡ false → rows_of u (with_rows t ts rs) ≡ rows_of u ts
rows_other Context Context ts rs n = clash {b = true} refl n
rows_other Context Mapping ts rs n = refl
rows_other Context Access ts rs n = refl
rows_other Context View ts rs n = refl
rows_other Mapping Context ts rs n = refl
rows_other Mapping Mapping ts rs n = clash {b = true} refl n
rows_other Mapping Access ts rs n = refl
rows_other Mapping View ts rs n = refl
rows_other Access Context ts rs n = refl
rows_other Access Mapping ts rs n = refl
rows_other Access Access ts rs n = clash {b = true} refl n
rows_other Access View ts rs n = refl
rows_other View Context ts rs n = refl
rows_other View Mapping ts rs n = refl
rows_other View Access ts rs n = refl
rows_other View View ts rs n = clash {b = true} refl n

with-swap : (t u : Table) (ts : Tables) (rs : List (RowOf t)) (ss : List (RowOf u)) → same_table t u ≡ false
    → with_rows u (with_rows t ts rs) ss ≡ with_rows t (with_rows u ts ss) rs
with-swap Context Context ts rs ss n = clash {b = true} refl n
with-swap Context Mapping ts rs ss n = refl
with-swap Context Access ts rs ss n = refl
with-swap Context View ts rs ss n = refl
with-swap Mapping Context ts rs ss n = refl
with-swap Mapping Mapping ts rs ss n = clash {b = true} refl n
with-swap Mapping Access ts rs ss n = refl
with-swap Mapping View ts rs ss n = refl
with-swap Access Context ts rs ss n = refl
with-swap Access Mapping ts rs ss n = refl
with-swap Access Access ts rs ss n = clash {b = true} refl n
with-swap Access View ts rs ss n = refl
with-swap View Context ts rs ss n = refl
with-swap View Mapping ts rs ss n = refl
with-swap View Access ts rs ss n = refl
with-swap View View ts rs ss n = clash {b = true} refl n

-- ---- an edit applied

abbrev pub Ascending : Tables → Type 0
Ascending ts = (t : Table) → Ascends (row_index t) (rows_of t ts)

-- what it makes of its own table's rows
abbrev rows_by : (e : Edit) → List (RowOf e.table) → List (RowOf e.table)
rows_by e = rows_after (row_index e.table) (shape_of e.operation) (row_of e.table e.bytes) (index_of_edit e)

module _ (ts : Tables) (a : Ascending ts) (e : Edit) where
  -- the row that stands at an index of a table: the edit's own at its own, else the one that was there
  pub own-after : rows_of e.table (applied ts e) ≡ rows_by e (rows_of e.table ts)
  unfolding applied
  own-after = rows-own e.table ts _

  pub other_after : (t : Table) → same_table e.table t ≡ false → rows_of t (applied ts e) ≡ rows_of t ts
  unfolding applied
  other_after t n = rows_other e.table t ts _ n

  pub ascending-after : Ascending (applied ts e)
  ascending-after t =
      split (same_table e.table t)
      (λ s. subst (λ u. Ascends (row_index u) (rows_of u (applied ts e))) (same-table e.table t s)
      (rw own-after (ascends-after (row_index e.table) (shape_of e.operation) _ (index_of_edit e) _ (a e.table))))
      (λ s. rw (other_after t s) (a t))

  -- at another index of its own table
  row-own : (u : Table) (i : List ℕ) → e.table ≡ u → same (index_of_edit e) i ≡ false
      → row_at (row_index u) i (rows_of u (applied ts e)) ≡ row_at (row_index u) i (rows_of u ts)
  row-own u i q n = subst (λ u. row_at (row_index u) i (rows_of u (applied ts e)) ≡ row_at (row_index u) i (rows_of u ts)) q
      (let t = e.table in
      ap (row_at (row_index t) i) own-after
      ∙ row_at-after (row_index t) (shape_of e.operation) (row_of t e.bytes) (index_of_edit e) (own-index e) (rows_of t ts) (a t) i
      ∙ cond-false _ _ (same-sym i (index_of_edit e) ∙ n))

  -- the row at any other index of any table stays
  pub row-after : (t : Table) (i : List ℕ) → same_table e.table t && same (index_of_edit e) i ≡ false
      → row_at (row_index t) i (rows_of t (applied ts e)) ≡ row_at (row_index t) i (rows_of t ts)
  row-after t i n =
      split (same_table e.table t) (λ s. row-own t i (same-table e.table t s) (rw s at n)) (λ s. ap (row_at (row_index t) i) (other_after t s))

  pub held_after : (d : Edit) → Apart e d → row_held (applied ts e) d ≡ row_held ts d
  held_after d n = row-after d.table (index_of_edit d) n

  -- and its own is put or gone
  pub own_held : row_held (applied ts e) e ≡ standing (shape_of e.operation) (row_of e.table e.bytes)
  own_held =
      let t = e.table in
      ap (row_at (row_index t) (index_of_edit e)) own-after
      ∙ row_at-after (row_index t) (shape_of e.operation) (row_of t e.bytes) (index_of_edit e) (own-index e) (rows_of t ts) (a t) (index_of_edit e)
      ∙ cond-true _ _ (same_refl (index_of_edit e))

  -- two edits of different rows, in either order
  swap-own : (o : Operation) (u : Table) (v : List ℕ) → e.table ≡ u → same (index_of_edit e) (index_of u v) ≡ false
      → applied (applied ts e) (edit_of o u v) ≡ applied (applied ts (edit_of o u v)) e
  unfolding applied index_of_edit
  swap-own o u v q = subst
      (λ u. same (index_of_edit e) (index_of u v) ≡ false → applied (applied ts e) (edit_of o u v) ≡ applied (applied ts (edit_of o u v)) e) q
      (λ n.
      let t = e.table in
      let d = edit_of o t v in
      let rs = rows_of t ts in
      with-twice t ts (rows_by e rs) _ ∙ ap (λ xs. with_rows t ts (rows_by d xs)) (rows-own t ts (rows_by e rs))
      ∙ ap (with_rows t ts)
      (after-swap (row_index t) (shape_of e.operation) (shape_of o) (row_of t e.bytes) (row_of t v) (index_of_edit e) (index_of_edit d) (own-index e) (own-index d)
      n rs (a t))
      ∙ sym (with-twice t ts (rows_by d rs) _ ∙ ap (λ xs. with_rows t ts (rows_by e xs)) (rows-own t ts (rows_by d rs))))

  swap-other : (d : Edit) → same_table e.table d.table ≡ false → applied (applied ts e) d ≡ applied (applied ts d) e
  unfolding applied
  swap-other d s =
      let r = eqb-sym (position d.table) (position e.table) ∙ s in
      let rs = rows_by e (rows_of e.table ts) in
      let ss = rows_by d (rows_of d.table ts) in
      ap (λ xs. with_rows d.table (with_rows e.table ts rs) (rows_by d xs)) (rows_other e.table d.table ts rs s)
      ∙ with-swap e.table d.table ts rs ss s
      ∙ sym (ap (λ xs. with_rows e.table (with_rows d.table ts ss) (rows_by e xs)) (rows_other d.table e.table ts ss r))

  pub swap : (d : Edit) → Apart e d → applied (applied ts e) d ≡ applied (applied ts d) e
  unfolding index_of_edit
  swap d n =
      split (same_table e.table d.table) (λ s. swap-own d.operation d.table d.bytes (same-table e.table d.table s) (rw s at n))
      (λ s. swap-other d s)

-- ---- how many rows there are

-- by the operation and whether the row is held
longer : {R : Type 0} (index_of : R → List ℕ) (o : Operation) (r : R) (i : List ℕ) → index_of r ≡ i → (xs : List R) → Ascends index_of xs
    → presence_fault o (not (is_none (row_at index_of i xs))) ≡ none
    → length (rows_after index_of (shape_of o) r i xs) + one_if (is_removal o) ≡ length xs + one_if (is_create o)
longer index_of Create r i e xs a h =
    split (is_none (row_at index_of i xs))
    (λ n. omega (arith, put-more index_of r xs (rw (← e) at (is-none (row_at index_of i xs) n))))
    (λ n. let z : some RowHeld ≡ none = rw n at h in cc)
longer index_of Change r i e xs a h =
    split (is_none (row_at index_of i xs)) (λ n. let z : some RowAbsent ≡ none = rw n at h in cc)
    (λ n. omega (arith, put-as-many index_of r xs (rw (← e) at n) a))
longer index_of Remove r i e xs a h =
    split (is_none (row_at index_of i xs)) (λ n. let z : some RowAbsent ≡ none = rw n at h in cc)
    (λ n. omega (arith, remove-less index_of i xs n))

-- what the operation finds is as it wants it
abbrev pub Present : Tables → Edit → Type 0
Present ts e = presence_fault e.operation (not (is_none (row_held ts e))) ≡ none

pub length-after : (ts : Tables) → Ascending ts → (e : Edit) → Present ts e → (t : Table)
    → length (rows_of t (applied ts e)) + one_if (removes_in t e) ≡ length (rows_of t ts) + one_if (creates_in t e)
length-after ts a e h t =
    split (same_table t e.table)
    (λ s. rw (s, and-true, and-true) (length-own t (sym (same-table t e.table s))))
    (λ s. rw (s, and-false, and-false) (omega (arith, ap length (other_after ts a e t (eqb-sym (position e.table) (position t) ∙ s)))))
  where
    length-own : (t : Table) → e.table ≡ t
        → length (rows_of t (applied ts e)) + one_if (is_removal e.operation) ≡ length (rows_of t ts) + one_if (is_create e.operation)
    length-own t q = subst
        (λ u. length (rows_of u (applied ts e)) + one_if (is_removal e.operation) ≡ length (rows_of u ts) + one_if (is_create e.operation)) q
        (rw (own-after ts a e)
        (longer (row_index e.table) e.operation (row_of e.table e.bytes) (index_of_edit e) (own-index e) (rows_of e.table ts) (a e.table) h))
