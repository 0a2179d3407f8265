-- The four tables of an image, one behind the other.
-- Numbers of two bytes add up by parts (`total-pairs`), so that room for an extent's rows and k more behind them is room for the
-- extent, and behind it for those k (`Room`); hence each table of an image that has room for all its rows lies within it.
-- Assumes nothing.
use mathlib.Core.Path.{◌≡◌, sym, ap, ◌∙◌}
use mathlib.Core.List.{List, [], ◌∷◌, ◌++◌}
use Prim.Native.Nat.{ℕ, zero, suc, ◌+◌, ◌*◌, ◌≤◌}
use native.Mathlib.Nat.{zero-add, suc-add, add_assoc}
use native.Mathlib.Omega.{arith}
use lib.ListN.{length, drop}
use lib.Seq.{drop-drop}
use Rattle.rows.specs.declared.Table.{Table}
use Rattle.rows.specs.declared.Table.TheVariants.{Context, Mapping, Access, View}
use Rattle.image_layout.specs.declared.Extent.{Extent}
use Rattle.image_layout.specs.declared.Layout.{Layout}
use Rattle.image_layout.specs.Layout.{pair, pairs, total, Inside, following, header, laid_out, extent_of, image_length, most_rows}

-- ---- sums

pub total-append : (a b : List ℕ) → total (a ++ b) ≡ total a + total b
total-append [] b = sym (zero-add (total b))
total-append (x ∷ a) b = ap (λ n. x + n) (total-append a b) ∙ sym (add_assoc x (total a) (total b))

pub pairs-append : (p q : ℕ) (v : List ℕ) → pairs (p + q) v ≡ pairs p v ++ pairs q (drop (2 * p) v)
pairs-append zero q v = rw zero-add
pairs-append (suc p) q v =
    let e : 2 + 2 * p ≡ 2 * suc p = omega arith in
    let f : drop (2 * p) (drop 2 v) ≡ drop (2 * suc p) v = drop-drop (2 * p) 2 v ∙ ap (λ n. drop n v) e in
    rw suc-add (ap (λ l. pair v ∷ l) (pairs-append p q (drop 2 v) ∙ ap (λ l. pairs p (drop 2 v) ++ pairs q l) f))

pub total-pairs : (w : List ℕ) (h p q : ℕ) → total (pairs (p + q) (drop h w)) ≡ total (pairs p (drop h w)) + total (pairs q (drop (h + 2 * p) w))
total-pairs w h p q =
    ap total (pairs-append p q (drop h w)) ∙ total-append (pairs p (drop h w)) _
    ∙ ap (λ v. total (pairs p (drop h w)) + total (pairs q v)) (drop-drop (2 * p) h w)

-- ---- room

-- for the rows of x and k more behind them
pub record Room (w : List ℕ) (x : Extent) (k : ℕ) : Type 0 where
  pub lengths_room : x.lengths + 2 * (x.count + k) ≤ length w
  pub rows_room : x.rows + total (pairs (x.count + k) (drop x.lengths w)) ≤ length w

pub room-inside : {w : List ℕ} {x : Extent} {k : ℕ} → Room w x k → Inside w x
room-inside {w} {x} {k} r = record {
  lengths_within = omega arith;
  rows_within = omega (arith, total-pairs w x.lengths x.count k, r.rows_room);
}

pub room-following : {w : List ℕ} {x : Extent} (n : ℕ) {k : ℕ} → Room w x (n + k) → Room w (following w x n) k
room-following {w} {x} n {k} r = record {
  lengths_room = omega arith;
  rows_room = omega (arith, total-pairs w x.lengths x.count (n + k), r.rows_room);
}

-- each table lies within w
pub record Within (w : List ℕ) (l : Layout) : Type 0 where
  pub contexts_in : Inside w l.contexts
  pub mappings_in : Inside w l.mappings
  pub accesses_in : Inside w l.accesses
  pub views_in : Inside w l.views

pub laid-within : (w : List ℕ) (c m a v : ℕ) → image_length (c + m + a + v) w ≤ length w → Within w (laid_out w c m a v)
unfolding laid_out
laid-within w c m a v h =
    let e : c + (m + (a + (v + 0))) ≡ c + m + a + v = omega arith in
    let x : Room w (laid_out w c m a v).contexts (m + (a + (v + 0))) = record { lengths_room = omega arith; rows_room = rw e h } in
    let y = room-following m x in
    let z = room-following a y in
    record {
      contexts_in = room-inside x;
      mappings_in = room-inside y;
      accesses_in = room-inside z;
      views_in = room-inside (room-following v z);
    }

-- the lengths of each end where those of all rows do at the latest
pub laid-lengths : (w : List ℕ) (c m a v : ℕ) → c + m + a + v ≤ most_rows → (t : Table)
    → let x = extent_of t (laid_out w c m a v) in x.lengths + 2 * x.count ≤ header + 2 * most_rows
unfolding laid_out
laid-lengths w c m a v h Context = omega arith
laid-lengths w c m a v h Mapping = omega arith
laid-lengths w c m a v h Access = omega arith
laid-lengths w c m a v h View = omega arith

-- a layout is told by its tables
pub laid-tables : (l : Layout) {x y z u : Extent} → x ≡ l.contexts → y ≡ l.mappings → z ≡ l.accesses → u ≡ l.views
    → record { contexts = x; mappings = y; accesses = z; views = u } ≡ l
laid-tables l p q r s = rw (p, q, r, s)
