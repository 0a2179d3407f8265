-- The first instance at which a walk stops, found table by table, column by column, row by row.
-- Behind the base an instance stands to the identifier as its column and index stand to what is left of it, and behind the column as its index stands to
-- what is left then (`Fronts` of crate `walk_compare`); an identifier above the front is above all that has it, and nothing there stops the walk.
-- The first of two lists is the first of the one in front, or else of the other. Assumes nothing.
use mathlib.Core.Path.{◌≡◌, refl, sym, ap, ◌∙◌}
use mathlib.Core.Bool.{Bool, true, false, cond, ◌&&◌}
use mathlib.Core.List.{List, [], ◌∷◌, ◌++◌, map}
use mathlib.Core.Option
use mathlib.Core.Option.{Option, none, some}
use Prim.Native.Nat.{ℕ, ◌-◌, ◌≤◌}
use native.Mathlib.Omega.{arith}
use lib.ListN.{length, take, drop, length-drop}
use lib.Seq.{take_all}
use Rattle.std.specs.Prelude.{Some, None}
use Rattle.numbers.specs.Lists.{keep, find}
use Rattle.numbers.specs.Order.{before}
use Rattle.numbers.proofs.Bools.{split}
use Rattle.numbers.proofs.Keeps.{find-ext, find-map}
use Rattle.rows.specs.declared.Table.{Table}
use Rattle.rows.specs.declared.Table.TheVariants.{Context, Mapping, Access, View}
use Rattle.rows.specs.Rows.{ViewRow}
use Rattle.instance_encode.specs.Instances.{base, instance}
use Rattle.edit_rules.specs.TableRows.{RowOf, row_index}
use Rattle.walk_rules.specs.Walk.{Instance, instance_of, of_columns}
use Rattle.walk_compare.specs.Types.{Onward}
use Rattle.walk_compare.specs.Onward.{onward, GoesOn}
use Rattle.walk_rows.specs.Reading.{readable, readable_row}
use Rattle.walk_compare.proofs.Fronts.{before_left, before-front}
use Rattle.walk_find.specs.Met.{passing, stops}

-- ---- the first of two lists

module _ {A : Type 0} (p : A → Bool) where
  pub find-front : (xs ys : List A) {y : A} → find p xs ≡ some y → find p (xs ++ ys) ≡ some y
  find-front [] ys e = cc
  find-front (x ∷ xs) ys e = split (p x) (λ q. rw q (rw q at e)) (λ q. rw q (find-front xs ys (rw q at e)))

  pub find-behind : (xs ys : List A) → find p xs ≡ none → find p (xs ++ ys) ≡ find p ys
  find-behind [] ys e = refl
  find-behind (x ∷ xs) ys e = split (p x) (λ q. let z : some x ≡ none = rw q at e in cc) (λ q. rw q (find-behind xs ys (rw q at e)))

  -- the first of those that another test keeps
  pub find-kept : (a : A → Bool) (xs : List A) → find p (keep a xs) ≡ find (λ x. a x && p x) xs
  find-kept a [] = refl
  find-kept a (x ∷ xs) =
      split (a x) (λ q. rw q (ap {B = Option A} (λ o. cond (p x) (some x) o) (find-kept a xs))) (λ q. rw q (find-kept a xs))

  -- none passes
  pub find-never : (xs : List A) → ((x : A) → p x ≡ false) → find p xs ≡ none
  find-never [] h = refl
  find-never (x ∷ xs) h = rw (h x) (find-never xs h)

-- ---- an identifier beside a front

module _ {o f : List ℕ} {r : Onward} (g : GoesOn o f r) where
  pub left-place : {k : ℕ} → r ≡ Some k → k ≤ length o
  left-place {k} e = let h : GoesOn o f (Some k) = rw e at g in h.place

  pub left_is : {k : ℕ} → r ≡ Some k → some (drop k o) ≡ onward o f
  left_is {k} e = let h : GoesOn o f (Some k) = rw e at g in h.is

  -- the slice that is left
  pub left-slice : {k : ℕ} → r ≡ Some k → some (take (length o - k) (drop k o)) ≡ onward o f
  left-slice {k} e = ap some (take_all (length o - k) (drop k o) (omega (arith, length-drop k o))) ∙ left_is e

  pub above-is : r ≡ None → none ≡ onward o f
  above-is e = let h : GoesOn o f None = rw e at g in h.is

-- ---- a row of a column

-- no index is empty
index-some : (t : Table) (r : RowOf t) → before [] (row_index t r) ≡ true
unfolding before
index-some Context r = refl
index-some Mapping r = refl
index-some Access r = refl
index-some View r = refl

cons-some : (x : ℕ) (xs : List ℕ) → before [] (x ∷ xs) ≡ true
unfolding before
cons-some x xs = refl

module _ (t : Table) (column : ℕ) (view : List ViewRow) where
  -- tests of the index that agree
  pub passing-ext : (f g : List ℕ → Bool) (rs : List (RowOf t)) → ((r : RowOf t) → f (row_index t r) ≡ g (row_index t r))
      → find (passing t column view f) rs ≡ find (passing t column view g) rs
  unfolding passing
  passing-ext f g rs h = find-ext _ _ rs (λ r. ap (λ b. b && readable view (instance t column (row_index t r))) (h r))

  pub passing-never : (f : List ℕ → Bool) (rs : List (RowOf t)) → ((r : RowOf t) → f (row_index t r) ≡ false) → find (passing t column view f) rs ≡ none
  unfolding passing
  passing-never f rs h = find-never _ rs (λ r. rw (h r))

  -- behind the column
  module _ (parts : List ℕ) (rs : List (RowOf t)) where
    abbrev behind : List ℕ → Bool
    behind i = before parts (column ∷ i)

    -- the first to be read of the rows whose index is above what is left
    pub column-left : {rest : List ℕ} → some rest ≡ onward parts (column ∷ [])
        → find (readable_row t column view) (keep (λ r. before rest (row_index t r)) rs) ≡ find (passing t column view behind) rs
    unfolding passing
    column-left {rest} e =
        find-kept (readable_row t column view) (λ r. before rest (row_index t r)) rs ∙ passing-ext (before rest) behind rs
        (λ r. sym (before-front parts (column ∷ []) (row_index t r) (index-some t r) ∙ ap (λ o. before_left o (row_index t r)) (sym e)))

    pub column-above : none ≡ onward parts (column ∷ []) → find (passing t column view behind) rs ≡ none
    column-above e =
        passing-never behind rs
        (λ r. before-front parts (column ∷ []) (row_index t r) (index-some t r) ∙ ap (λ o. before_left o (row_index t r)) (sym e))

-- ---- the columns of a table

module _ (t : Table) (view : List ViewRow) (identifier : List ℕ) (rs : List (RowOf t)) where
  abbrev here : Instance → Bool
  here = stops view identifier

  -- behind the base
  module _ {rest : List ℕ} (e : onward identifier (base t) ≡ some rest) where
    stops-passing : (column : ℕ) (r : RowOf t) → here (instance_of t column r) ≡ passing t column view (λ i. before rest (column ∷ i)) r
    unfolding stops passing
    stops-passing column r =
        ap (λ b. b && readable view (instance t column (row_index t r)))
        (before-front identifier (base t) (column ∷ row_index t r) (cons-some column (row_index t r)) ∙ ap (λ o. before_left o (column ∷ row_index t r)) e)

    -- the first of a column
    find-column : (column : ℕ) → find here (map (instance_of t column) rs)
        ≡ Option.map (instance_of t column) (find (passing t column view (λ i. before rest (column ∷ i))) rs)
    find-column column =
        find-map (instance_of t column) here rs ∙ ap (Option.map (instance_of t column)) (find-ext _ _ rs (λ r. stops-passing column r))

    module _ (column : ℕ) (cs : List ℕ) where
      pub column-stops : {r : RowOf t} → find (passing t column view (λ i. before rest (column ∷ i))) rs ≡ some r
          → find here (of_columns t rs (column ∷ cs)) ≡ some (instance_of t column r)
      column-stops {r} q =
          find-front here (map (instance_of t column) rs) (of_columns t rs cs) (find-column column ∙ ap (Option.map (instance_of t column)) q)

      pub column-passed : find (passing t column view (λ i. before rest (column ∷ i))) rs ≡ none
          → find here (of_columns t rs (column ∷ cs)) ≡ find here (of_columns t rs cs)
      column-passed q =
          find-behind here (map (instance_of t column) rs) (of_columns t rs cs) (find-column column ∙ ap (Option.map (instance_of t column)) q)

  -- an identifier above the base
  pub table-above : none ≡ onward identifier (base t) → (cs : List ℕ) → find here (of_columns t rs cs) ≡ none
  unfolding stops
  table-above e [] = refl
  table-above e (column ∷ cs) =
      find-behind here (map (instance_of t column) rs) (of_columns t rs cs)
      (find-map (instance_of t column) here rs ∙ ap (Option.map (instance_of t column)) (find-never _ rs (λ r. never r)))
      ∙ table-above e cs
    where
      never : (r : RowOf t) → here (instance_of t column r) ≡ false
      never r =
          ap (λ b. b && readable view (instance t column (row_index t r)))
          (before-front identifier (base t) (column ∷ row_index t r) (cons-some column (row_index t r))
          ∙ ap (λ o. before_left o (column ∷ row_index t r)) (sym e))
