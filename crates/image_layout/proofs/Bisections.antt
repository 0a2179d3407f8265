-- A bisection over the rows of an extent, as a loop makes it. The row in the middle is reached from lo by the sum of the lengths between them (`walk-on`) and
-- lies within the bytes; whichever side of it is left, its rows are again some from one row up to another. Assumes nothing.
use mathlib.Core.Path.{◌≡◌, refl, sym, ap, ◌∙◌}
use mathlib.Core.List.{List, ◌∷◌}
use Prim.Native.Nat.{ℕ, zero, suc, ◌+◌, ◌-◌, ◌*◌, ◌/◌, ◌≤◌, ◌<◌}
use native.Mathlib.Omega.{arith}
use lib.ListN.{length, drop}
use lib.Seq.{drop-drop}
use Rattle.image_layout.specs.declared.Extent.{Extent}
use Rattle.image_layout.specs.declared.Middle.{Middle}
use Rattle.image_layout.specs.Layout.{pair, pairs, total, rows_in, Inside}
use Rattle.image_layout.specs.Bisection.{Between, MiddleRow}
use Rattle.image_layout.proofs.Walks.{piece, Walk, walk-length, walk-row, walk-next, rest-slice, rest-drop}

-- n rows further, by the sum of their lengths
walk-on : {w : List ℕ} {x : Extent} (n j : ℕ) {i g o p : ℕ} → Walk w x i g o → i + n ≡ j → j ≤ x.count → p ≡ o + total (pairs n (drop g w))
    → Walk w x j (x.lengths + 2 * j) p
walk-on {w} {x} zero j {i} {g} {o} {p} k e h f =
    let a : i ≡ j = omega arith in
    let b : o ≡ p = omega arith in
    record { passed = h; length_place = refl; row_place = rw (a, b) at k.row_place }
walk-on {w} {x} (suc n) j {i} {g} {o} {p} k e h f =
    let l = pair (drop g w) in
    walk-on n j (walk-next k l (omega arith) refl) (omega arith) h (omega (arith, ap (λ v. total (pairs n v)) (drop-drop 2 g w)))

module _ {w : List ℕ} {x : Extent} {lo hi o : ℕ} (k : Between w x lo hi o) where
  pub between-walk : Walk w x lo (x.lengths + 2 * lo) o
  between-walk = record { passed = omega (arith, k.ordered, k.within); length_place = refl; row_place = k.place }

  -- the row at mid, found by the sum n of the lengths up to it, and of length l
  module _ (s : Inside w x) (mid : ℕ) (z : mid ≡ lo + (hi - lo) / 2) (h : lo < hi) where
    low : lo ≤ mid
    low = omega arith

    high : mid < hi
    high = omega arith

    pub middle-lengths : x.lengths + 2 * lo + 2 * (mid - lo) ≤ length w
    middle-lengths = omega (arith, low, high, k.within, s.lengths_within)

    module _ {n : ℕ} (e : n ≡ total (pairs (mid - lo) (drop (x.lengths + 2 * lo) w))) where
      walk : Walk w x mid (x.lengths + 2 * mid) (o + n)
      walk = walk-on (mid - lo) mid between-walk (omega (arith, low)) (omega (arith, high, k.within)) (omega arith)

      pub middle-start : o + n ≤ length w
      middle-start = omega (arith, walk.row_place, s.rows_within)

      pub middle-length : x.lengths + 2 * mid + 2 ≤ length w
      middle-length = walk-length walk s (omega (arith, high, k.within))

      module _ {l : ℕ} (f : l ≡ pair (drop (x.lengths + 2 * mid) w)) where
        pub middle-row : MiddleRow w x lo hi (record { row = mid; from = o + n; end = o + n + l })
        middle-row = record {
          row_is = z;
          low = low;
          high = high;
          place = walk.row_place;
          end_is = ap (λ m. o + n + m) f;
          end_in = walk-row walk l (omega (arith, high, k.within)) f s;
        }

  -- ---- with a row in the middle

  module _ {r : Middle} (m : MiddleRow w x lo hi r) where
    pub row_inside : r.row < x.count
    row_inside = omega (arith, k.within, m.high)

    pub row-walk : Walk w x r.row (x.lengths + 2 * r.row) r.from
    row-walk = record { passed = omega (arith, row_inside); length_place = refl; row_place = m.place }

    abbrev size : ℕ
    size = pair (drop (x.lengths + 2 * r.row) w)

    walk-behind : Walk w x (r.row + 1) (x.lengths + 2 * r.row + 2) (r.from + size)
    walk-behind = walk-next row-walk size row_inside refl

    pub rows-from : drop r.row (rows_in w x) ≡ piece w r.from r.end ∷ drop (r.row + 1) (rows_in w x)
    rows-from =
        sym (rest-drop row-walk) ∙ rest-slice row-walk size row_inside refl
        ∙ rw (rest-drop walk-behind) (ap (λ e. piece w r.from e ∷ drop (r.row + 1) (rows_in w x)) (sym m.end_is))

    pub between-up : Between w x (r.row + 1) hi r.end
    between-up = record { ordered = omega (arith, m.high); within = k.within; place = rw m.end_is walk-behind.row_place }

    pub between-down : Between w x lo r.row o
    between-down = record { ordered = m.low; within = omega (arith, row_inside); place = k.place }

pub between_start : (w : List ℕ) (x : Extent) → Between w x 0 x.count x.rows
between_start w x = record { ordered = omega arith; within = omega arith; place = refl }
