-- A bisection over the rows of an extent: the rows that are left to look at, and the one in their middle. Assumes nothing.
use Rattle.std.specs.Prelude.{◌≡◌, List, ℕ, ◌+◌, ◌-◌, ◌*◌, ◌/◌, ◌≤◌, ◌<◌, length, drop}
use Rattle.image_layout.specs.declared.Extent.{Extent}
use Rattle.image_layout.specs.declared.Middle.{Middle}
use Rattle.image_layout.specs.Layout.{pair, total, lengths_in, end_of}

-- the rows from row lo, which begins at o, up to row hi
pub record Between (w : List ℕ) (x : Extent) (lo hi o : ℕ) : Type 0 where
  pub ordered : lo ≤ hi
  pub within : hi ≤ x.count
  pub place : o + total (drop lo (lengths_in w x)) ≡ end_of w x

-- the one in their middle, and where it lies
pub record MiddleRow (w : List ℕ) (x : Extent) (lo hi : ℕ) (r : Middle) : Type 0 where
  pub row_is : r.row ≡ lo + (hi - lo) / 2
  pub low : lo ≤ r.row
  pub high : r.row < hi
  pub place : r.from + total (drop r.row (lengths_in w x)) ≡ end_of w x
  pub end_is : r.end ≡ r.from + pair (drop (x.lengths + 2 * r.row) w)
  pub end_in : r.end ≤ length w
