-- A table's rows put, removed and found, beside the rows that a test keeps.
-- A put and a removal keep the order and what holds of every row. Where the test goes by the index, a put or a removal of a row
-- that is kept commutes with the test, and one of a row that is not kept does not show. Only the put of a kept row needs the order:
-- where the row goes in before one that is not kept, it is before all that follow. Assumes nothing.
use mathlib.Core.Path.{◌≡◌, refl, sym, ap, ◌∙◌}
use mathlib.Core.Bool.{Bool, true, false}
use mathlib.Core.List.{List, [], ◌∷◌}
use mathlib.Core.Option.{none}
use Prim.Native.Nat.{ℕ, ◌≤◌}
use native.Mathlib.Omega.{arith}
use lib.ListN.{length}
use Rattle.numbers.specs.Lists.{keep, every, first, find}
use Rattle.numbers.specs.Order.{same, before}
use Rattle.numbers.proofs.Bools.{split, clash, and_left, and_right}
use Rattle.numbers.proofs.Orders.{same_true, before-not-same}
use Rattle.numbers.proofs.Keeps.{keep-keep, find_first}
use Rattle.numbers.proofs.Greatest.{Under, Ascends, under-trans, under-keep}
use Rattle.rows.specs.declared.Shape.{Shape}
use Rattle.rows.specs.declared.Shape.TheVariants.{Row, Key}
use Rattle.table_update.specs.Tables.{row_at, put_row, remove_row}
use Rattle.edit_rules.specs.Edits.{rows_after}
use Rattle.isolation.specs.Isolation.{is_row}

module _ {A : Type 0} where
  pub find-keep : (p f : A → Bool) (xs : List A) → ((x : A) → f x ≡ true → p x ≡ true) → find f (keep p xs) ≡ find f xs
  find-keep p f xs c = find_first f (keep p xs) ∙ ap first (keep-keep p f xs c) ∙ sym (find_first f xs)

  pub length-keep : (p : A → Bool) (xs : List A) → length (keep p xs) ≤ length xs
  length-keep p [] = omega arith
  length-keep p (x ∷ xs) =
      let ih : length (keep p xs) ≤ length xs = length-keep p xs in split (p x) (λ e. rw e (omega arith)) (λ e. rw e (omega arith))

module _ {R : Type 0} (index_of : R → List ℕ) where
  -- what holds of every row
  pub every-put : (g : R → Bool) (r : R) (xs : List R) → g r ≡ true → every g xs ≡ true → every g (put_row index_of r xs) ≡ true
  every-put g r [] h a = rw h
  every-put g r (x ∷ xs) h a =
      let gx : g x ≡ true = and_left _ _ a in
      let rest : every g xs ≡ true = and_right (g x) _ a in
      let ih : every g (put_row index_of r xs) ≡ true = every-put g r xs h rest in
      split (same (index_of r) (index_of x)) (λ e. rw (e, h) rest)
      (λ e. split (before (index_of r) (index_of x)) (λ l. rw (e, l, h) a) (λ l. rw (e, l, gx) ih))

  pub every-remove : (g : R → Bool) (i : List ℕ) (xs : List R) → every g xs ≡ true → every g (remove_row index_of i xs) ≡ true
  every-remove g i [] a = refl
  every-remove g i (x ∷ xs) a =
      let gx : g x ≡ true = and_left _ _ a in
      let rest : every g xs ≡ true = and_right (g x) _ a in
      let ih : every g (remove_row index_of i xs) ≡ true = every-remove g i xs rest in
      split (same i (index_of x)) (λ e. rw e rest) (λ e. rw (e, gx) ih)

  -- a row before all is put in front
  put_under : (r : R) (xs : List R) → Under index_of (index_of r) xs → put_row index_of r xs ≡ r ∷ xs
  put_under r [] u = refl
  put_under r (x ∷ xs) u = rw (before-not-same (index_of r) (index_of x) u.0, u.0)

  -- the rows that p keeps
  module _ (p : R → Bool) where
    pub keep-put-in : (r : R) (xs : List R) → ((x : R) → index_of r ≡ index_of x → p x ≡ true) → p r ≡ true → Ascends index_of xs
        → keep p (put_row index_of r xs) ≡ put_row index_of r (keep p xs)
    keep-put-in r [] c h a = rw h
    keep-put-in r (x ∷ xs) c h a =
        let ih : keep p (put_row index_of r xs) ≡ put_row index_of r (keep p xs) = keep-put-in r xs c h a.1 in
        split (same (index_of r) (index_of x)) (λ e. let px : p x ≡ true = c x (same_true _ _ e) in rw (e, h, px) (rw e))
        (λ e. split (before (index_of r) (index_of x))
        (λ l. split (p x) (λ px. rw (e, l, h, px) (rw (e, l)))
        (λ px. rw (e, l, h, px) (sym (put_under r (keep p xs) (under-keep index_of (index_of r) p xs (under-trans index_of _ _ xs l a.0))))))
        (λ l. split (p x) (λ px. rw (e, l, px) (rw (e, l, ih))) (λ px. rw (e, l, px) ih)))

    pub keep-put-out : (r : R) (xs : List R) → ((x : R) → index_of r ≡ index_of x → p x ≡ false) → p r ≡ false
        → keep p (put_row index_of r xs) ≡ keep p xs
    keep-put-out r [] c h = rw h
    keep-put-out r (x ∷ xs) c h =
        let ih : keep p (put_row index_of r xs) ≡ keep p xs = keep-put-out r xs c h in
        split (same (index_of r) (index_of x)) (λ e. let px : p x ≡ false = c x (same_true _ _ e) in rw (e, h, px))
        (λ e. split (before (index_of r) (index_of x)) (λ l. rw (e, l, h)) (λ l. rw (e, l, ih)))

    pub keep-remove-in : (i : List ℕ) (xs : List R) → ((x : R) → i ≡ index_of x → p x ≡ true)
        → keep p (remove_row index_of i xs) ≡ remove_row index_of i (keep p xs)
    keep-remove-in i [] c = refl
    keep-remove-in i (x ∷ xs) c =
        let ih : keep p (remove_row index_of i xs) ≡ remove_row index_of i (keep p xs) = keep-remove-in i xs c in
        split (same i (index_of x)) (λ e. rw (e, c x (same_true _ _ e)) (rw e))
        (λ e. split (p x) (λ px. rw (e, px) (rw (e, ih))) (λ px. rw (e, px) ih))

    pub keep-remove-out : (i : List ℕ) (xs : List R) → ((x : R) → i ≡ index_of x → p x ≡ false)
        → keep p (remove_row index_of i xs) ≡ keep p xs
    keep-remove-out i [] c = refl
    keep-remove-out i (x ∷ xs) c =
        let ih : keep p (remove_row index_of i xs) ≡ keep p xs = keep-remove-out i xs c in
        split (same i (index_of x)) (λ e. rw (e, c x (same_true _ _ e))) (λ e. rw (e, ih))

    pub row_at-keep : (i : List ℕ) (xs : List R) → ((x : R) → i ≡ index_of x → p x ≡ true) → row_at index_of i (keep p xs) ≡ row_at index_of i xs
    row_at-keep i xs c = find-keep p (λ x. same i (index_of x)) xs (λ x e. c x (same_true i (index_of x) e))

    -- at an index that is not kept there is none
    pub row_at-unkept : (i : List ℕ) (xs : List R) → ((x : R) → i ≡ index_of x → p x ≡ false) → row_at index_of i (keep p xs) ≡ none
    row_at-unkept i [] c = refl
    row_at-unkept i (x ∷ xs) c =
        let ih : row_at index_of i (keep p xs) ≡ none = row_at-unkept i xs c in
        split (p x) (λ k. rw k (split (same i (index_of x)) (λ e. clash k (c x (same_true i (index_of x) e))) (λ e. rw e ih))) (λ k. rw k ih)

    -- ---- an edit's rows: where the test goes by the index, an edit of a kept row commutes with it, and any other does not show

    pub keep-after-in : (y : Shape) (r : R) (i : List ℕ) (xs : List R) → index_of r ≡ i → ((x : R) → i ≡ index_of x → p x ≡ true) → Ascends index_of xs
        → keep p (rows_after index_of y r i xs) ≡ rows_after index_of y r i (keep p xs)
    keep-after-in Row r i xs e c a = keep-put-in r xs (λ x q. c x (sym e ∙ q)) (c r (sym e)) a
    keep-after-in Key r i xs e c a = keep-remove-in i xs c

    pub keep-after-out : (y : Shape) (r : R) (i : List ℕ) (xs : List R) → index_of r ≡ i → ((x : R) → i ≡ index_of x → p x ≡ false)
        → keep p (rows_after index_of y r i xs) ≡ keep p xs
    keep-after-out Row r i xs e c = keep-put-out r xs (λ x q. c x (sym e ∙ q)) (c r (sym e))
    keep-after-out Key r i xs e c = keep-remove-out i xs c

  -- what holds of every row
  pub every-after : (g : R → Bool) (y : Shape) (r : R) (i : List ℕ) (xs : List R) → (is_row y ≡ true → g r ≡ true) → every g xs ≡ true
      → every g (rows_after index_of y r i xs) ≡ true
  every-after g Row r i xs h a = every-put g r xs (h refl) a
  every-after g Key r i xs h a = every-remove g i xs a
