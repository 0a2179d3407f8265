-- A table's rows after a row is put or removed: the row at each index, how many rows there are, and that they ascend. Over any row and its index.
-- Assumes nothing.
use mathlib.Core.Path.{◌≡◌, refl, sym, ap, ◌∙◌}
use mathlib.Core.Bool.{true, false, cond}
use mathlib.Core.List.{List, [], ◌∷◌}
use mathlib.Core.Option.{none, some}
use Prim.Native.Nat.{ℕ, suc}
use lib.ListN.{length}
use Rattle.numbers.specs.Lists.{is_none}
use Rattle.numbers.specs.Order.{same, before}
use Rattle.numbers.proofs.Bools.{split, clash, cond_same}
use Rattle.numbers.proofs.Orders.{same_true, same-sym, before-total}
use Rattle.numbers.proofs.Greatest.{Under, Ascends, under-trans}
use Rattle.numbers.proofs.Ascending.{none-under}
use Rattle.table_update.specs.Tables.{row_at, put_row, remove_row}

module _ {R : Type 0} (index_of : R → List ℕ) where
  pub row_at-put : (i : List ℕ) (r : R) (xs : List R) → row_at index_of i (put_row index_of r xs) ≡ cond (same i (index_of r)) (some r) (row_at index_of i xs)
  row_at-put i r [] = refl
  row_at-put i r (x ∷ xs) =
      let ih : row_at index_of i (put_row index_of r xs) ≡ cond (same i (index_of r)) (some r) (row_at index_of i xs) = row_at-put i r xs in
      split (same (index_of r) (index_of x))
      (λ e. rw (e, ← (same_true (index_of r) (index_of x) e))
      (split (same i (index_of r)) (λ q. rw q) (λ q. rw q)))
      (λ e. split (before (index_of r) (index_of x)) (λ l. rw (e, l))
      (λ l. rw (e, l, ih) (split (same i (index_of x)) (λ q. rw (q, other i x e (same_true i (index_of x) q))) (λ q. rw q))))
    where
      other : (i : List ℕ) (x : R) → same (index_of r) (index_of x) ≡ false → i ≡ index_of x → same i (index_of r) ≡ false
      other i x e q = rw q (same-sym (index_of x) (index_of r) ∙ e)

  pub row_at-remove : (i j : List ℕ) (xs : List R) → Ascends index_of xs
      → row_at index_of j (remove_row index_of i xs) ≡ cond (same j i) none (row_at index_of j xs)
  row_at-remove i j [] a = sym (cond_same (same j i) none)
  row_at-remove i j (x ∷ xs) a =
      let ih : row_at index_of j (remove_row index_of i xs) ≡ cond (same j i) none (row_at index_of j xs) = row_at-remove i j xs a.1 in
      split (same i (index_of x))
      (λ e.
      let k : i ≡ index_of x = same_true i (index_of x) e in
      rw (e, ← k)
      (split (same j i) (λ q. rw q (none-under index_of j xs (under_at j (same_true j i q ∙ k)))) (λ q. rw q)))
      (λ e. rw e (split (same j (index_of x)) (λ q. rw (q, other (same_true j (index_of x) q) e)) (λ q. rw q ih)))
    where
      under_at : (j : List ℕ) → j ≡ index_of x → Under index_of j xs
      under_at j q = rw q a.0

      other : j ≡ index_of x → same i (index_of x) ≡ false → same j i ≡ false
      other q e = rw q (same-sym (index_of x) i ∙ e)

  pub put-more : (r : R) (xs : List R) → row_at index_of (index_of r) xs ≡ none → length (put_row index_of r xs) ≡ suc (length xs)
  put-more r [] h = refl
  put-more r (x ∷ xs) h =
      split (same (index_of r) (index_of x)) (λ e. let z : some x ≡ none = rw e at h in cc)
      (λ e. split (before (index_of r) (index_of x)) (λ l. rw (e, l)) (λ l. rw (e, l) (ap suc (put-more r xs (rw e at h)))))

  -- the order is kept
  under-put : (i : List ℕ) (r : R) (xs : List R) → before i (index_of r) ≡ true → Under index_of i xs → Under index_of i (put_row index_of r xs)
  under-put i r [] h u = (h, tt)
  under-put i r (x ∷ xs) h u =
      let ih : Under index_of i (put_row index_of r xs) = under-put i r xs h u.1 in
      split (same (index_of r) (index_of x)) (λ e. rw e (h, u.1))
      (λ e. split (before (index_of r) (index_of x)) (λ l. rw (e, l) (h, u)) (λ l. rw (e, l) (u.0, ih)))

  pub ascends_put : (r : R) (xs : List R) → Ascends index_of xs → Ascends index_of (put_row index_of r xs)
  ascends_put r [] a = (tt, tt)
  ascends_put r (x ∷ xs) a =
      let ih : Ascends index_of (put_row index_of r xs) = ascends_put r xs a.1 in
      split (same (index_of r) (index_of x)) (λ e. rw e (rw (same_true (index_of r) (index_of x) e) a.0, a.1))
      (λ e. split (before (index_of r) (index_of x)) (λ l. rw (e, l) ((l, under-trans index_of _ _ xs l a.0), a))
      (λ l. rw (e, l) (under-put (index_of x) r xs (before-total _ _ e l) a.0, ih)))

  under-remove : (j i : List ℕ) (xs : List R) → Under index_of j xs → Under index_of j (remove_row index_of i xs)
  under-remove j i [] u = tt
  under-remove j i (x ∷ xs) u =
      let ih : Under index_of j (remove_row index_of i xs) = under-remove j i xs u.1 in
      split (same i (index_of x)) (λ e. rw e u.1) (λ e. rw e (u.0, ih))

  pub ascends-remove : (i : List ℕ) (xs : List R) → Ascends index_of xs → Ascends index_of (remove_row index_of i xs)
  ascends-remove i [] a = tt
  ascends-remove i (x ∷ xs) a =
      let ih : Ascends index_of (remove_row index_of i xs) = ascends-remove i xs a.1 in
      split (same i (index_of x)) (λ e. rw e a.1) (λ e. rw e (under-remove (index_of x) i xs a.0, ih))

  -- one row more, as many, or one less
  pub put-as-many : (r : R) (xs : List R) → is_none (row_at index_of (index_of r) xs) ≡ false → Ascends index_of xs → length (put_row index_of r xs) ≡ length xs
  put-as-many r [] h a = clash {b = true} refl h
  put-as-many r (x ∷ xs) h a =
      split (same (index_of r) (index_of x)) (λ e. rw e)
      (λ e. split (before (index_of r) (index_of x))
      (λ l. let n : row_at index_of (index_of r) xs ≡ none = none-under index_of (index_of r) xs (under-trans index_of _ _ xs l a.0) in
      clash {b = true} refl (rw (e, n) at h))
      (λ l. rw (e, l) (ap suc (put-as-many r xs (rw e at h) a.1))))

  pub remove-less : (i : List ℕ) (xs : List R) → is_none (row_at index_of i xs) ≡ false → suc (length (remove_row index_of i xs)) ≡ length xs
  remove-less i [] h = clash {b = true} refl h
  remove-less i (x ∷ xs) h = split (same i (index_of x)) (λ e. rw e) (λ e. rw e (ap suc (remove-less i xs (rw e at h))))
