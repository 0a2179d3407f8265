-- A table's rows, ascending by index: the row held, a row put, a row removed. Over any row and its index. Assumes nothing.
use Rattle.std.specs.Prelude.{cond, List, [], ◌∷◌, ℕ}
use Rattle.std.proofs.Math.Option.{Option}
use Rattle.numbers.specs.Lists.{find}
use Rattle.numbers.specs.Order.{same, before}

module _ {R : Type 0} (index_of : R → List ℕ) where
  -- the row with this index
  abbrev pub row_at : List ℕ → List R → Option R
  row_at i rs = find (λ r. same i (index_of r)) rs

  -- a row in its place by index, in place of the row with its index if there is one
  abbrev pub put_row : R → List R → List R
  put_row r [] = r ∷ []
  put_row r (x ∷ xs) =
      cond (same (index_of r) (index_of x)) (r ∷ xs) (cond (before (index_of r) (index_of x)) (r ∷ x ∷ xs) (x ∷ put_row r xs))

  -- the row with this index gone
  abbrev pub remove_row : List ℕ → List R → List R
  remove_row i [] = []
  remove_row i (x ∷ xs) = cond (same i (index_of x)) xs (x ∷ remove_row i xs)
