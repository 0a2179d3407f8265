-- A view table looked at from its end: of the rows passed none passes the test, so that the first row met which does is the last of all.
-- Where the test is to be in the view, the rows up to that one hold all of the view (step 4). Assumes nothing.
use mathlib.Core.Path.{◌≡◌, sym, ap, ◌∙◌}
use mathlib.Core.Bool.{Bool, true, false}
use mathlib.Core.List.{List, [], ◌∷◌, ◌++◌, map, map-append, append-nil}
use Prim.Native.Nat.{ℕ, ◌+◌, ◌-◌, ◌*◌, ◌≤◌, ◌<◌}
use native.Mathlib.Omega.{arith}
use lib.Dec.{ltb}
use lib.ListN.{take, drop}
use borrow.Author.Tests.{lt-ltb, le-ltb}
use Rattle.numbers.specs.Lists.{keep, any}
use Rattle.numbers.proofs.Bools.{or_left, or_right, or-neither}
use Rattle.numbers.proofs.Keeps.{keep_append, any-keep}
use Rattle.rows.specs.declared.Table.TheVariants.{View}
use Rattle.rows.specs.Rows.{ViewRow, view_of}
use Rattle.image_layout.specs.declared.Extent.{Extent}
use Rattle.image_layout.specs.Layout.{pair, rows_in, extent, end_of}
use Rattle.image_judge.specs.Faults.{SoundTable}
use Rattle.image_layout.proofs.Walks.{piece, rest, Walk, rest_end}
use Rattle.decision_steps.specs.Decision.{in_view}
use Rattle.decision_find.specs.Found.{rows_of_view, ToLast}
use Rattle.decision_find.proofs.Backwards.{rest-behind, back_start, back_end, back-walk, back-rest, back-rows}
use Rattle.decision_find.proofs.Fronts.{front-rows, front-end, front-sound}

module _ {A : Type 0} (p : A → Bool) where
  any_at : (xs : List A) (y : A) (ys : List A) → p y ≡ true → any p (xs ++ (y ∷ ys)) ≡ true
  any_at [] y ys e = or_left _ e
  any_at (x ∷ xs) y ys e = or_right (p x) (any_at xs y ys e)

-- i rows are left in front, and none behind them passes the test
pub record Looking (p : ViewRow → Bool) (w : List ℕ) (x : Extent) (i g e : ℕ) : Type 0 where
  pub walk : Walk w x i g e
  pub none_passes : any p (map view_of (rest w x i e)) ≡ false

-- none is behind the last
pub looking-start : (p : ViewRow → Bool) (w : List ℕ) (x : Extent) {n g e : ℕ} → x.count ≡ n → x.lengths + 2 * x.count ≡ g → e ≡ end_of w x
    → Looking p w x n g e
looking-start p w x {n} {g} {e} c q r =
    let k = back_start w x c q r in
    let z : rest w x n e ≡ [] = rest_end k (omega arith) in
    record { walk = k; none_passes = rw z }

module _ {p : ViewRow → Bool} {w : List ℕ} {x : Extent} {i g e : ℕ} (k : Looking p w x i g e) where
  -- none is left in front
  looking-all : i ≤ 0 → any p (map view_of (rows_in w x)) ≡ false
  looking-all h = rw (← back_end k.walk h) k.none_passes

  -- the row before e, of length l
  module _ (h : 0 < i) (l : ℕ) (q : l ≡ pair (drop (g - 2) w)) where
    abbrev row : ViewRow
    row = view_of (piece w (e - l) e)

    pub looking-passed : p row ≡ false → Looking p w x (i - 1) (g - 2) (e - l)
    looking-passed n = record {
      walk = back-walk k.walk h l q;
      none_passes = rw (back-rest k.walk h l q) (or-neither n k.none_passes);
    }

    front : List ViewRow
    front = map view_of (take (i - 1) (rows_in w x))

    rows_are : map view_of (rows_in w x) ≡ front ++ (row ∷ map view_of (rest w x i e))
    unfolding front
    rows_are = ap (map view_of) (back-rows k.walk h l q) ∙ map-append view_of (take (i - 1) (rows_in w x)) _

    looking-some : p row ≡ true → any p (map view_of (rows_in w x)) ≡ true
    looking-some n = ap (any p) rows_are ∙ any_at p front row _ n

-- ---- step 4

module _ (name : List ℕ) {w : List ℕ} {x : Extent} {i g e : ℕ} (k : Looking (in_view name) w x i g e) (t : SoundTable View w x) where
  first : List ViewRow
  first = map view_of (take i (rows_in w x))

  rows_split : map view_of (rows_in w x) ≡ first ++ map view_of (rest w x i e)
  unfolding first
  rows_split = ap (map view_of) (rest-behind k.walk) ∙ map-append view_of (take i (rows_in w x)) _

  -- the first i rows hold all of the view
  all-kept : rows_of_view name w x ≡ keep (in_view name) first
  all-kept =
      ap (keep (in_view name)) rows_split
      ∙ keep_append (in_view name) first _
      ∙ ap (λ u. keep (in_view name) first ++ u) (any-keep (in_view name) (map view_of (rest w x i e)) k.none_passes)
      ∙ append-nil _

  to_last : any (in_view name) (map view_of (rows_in w x)) ≡ ltb 0 i → ToLast name w x (record { rows = extent x.lengths x.rows i; end = e })
  unfolding first
  to_last s = record {
    lies = record { sound = front-sound k.walk t; ends = front-end k.walk };
    kept = ap (λ rs. keep (in_view name) (map view_of rs)) (front-rows k.walk) ∙ sym all-kept;
    some = s;
  }

  pub last_none : i ≤ 0 → ToLast name w x (record { rows = extent x.lengths x.rows 0; end = e })
  last_none h = let z : i ≡ 0 = omega arith in rw z at (to_last (looking-all k h ∙ sym (le-ltb 0 i h)))

  pub last_found : (h : 0 < i) (l : ℕ) → l ≡ pair (drop (g - 2) w) → in_view name (view_of (piece w (e - l) e)) ≡ true
      → ToLast name w x (record { rows = extent x.lengths x.rows i; end = e })
  last_found h l q n = to_last (looking-some k h l q n ∙ sym (lt-ltb 0 i h))
