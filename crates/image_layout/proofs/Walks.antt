-- A walk over the rows of an extent, as a loop makes it: i rows are passed, the next length stands at g, the next row begins at o.
-- What is left to walk is the extent's lengths but for the first i, and the rows of those lengths from o on (`rest`). A length that
-- is left is the number at g (`pairs_next`), so that a step takes one row off; and what is left of the lengths ends where the
-- extent does (`row_place`), so that each row lies within it. Assumes nothing.
use mathlib.Core.Path.{◌≡◌, refl, sym, ap, ◌∙◌}
use mathlib.Core.List.{List, [], ◌∷◌}
use Prim.Native.Nat.{ℕ, zero, suc, ◌+◌, ◌-◌, ◌*◌, ◌≤◌, ◌<◌}
use native.Mathlib.Nat.{add-zero}
use native.Mathlib.Numerals.{add-one}
use native.Mathlib.Omega.{arith}
use lib.ListN.{length, take, drop, get_or, drop_of_length-le, take-append-drop}
use lib.Seq.{drop-drop, drop-cons, get_or-drop}
use Rattle.numbers.specs.BigEndian.{Octets}
use Rattle.numbers.proofs.BigEndian.{octets-drop}
use Rattle.image_layout.specs.declared.Extent.{Extent}
use Rattle.image_layout.specs.Layout.{pair, pairs, total, cut, lengths_in, rows_in, end_of, Inside, most_pair}
use Rattle.image_layout.proofs.Layouts.{total-append}

-- ---- a part of the bytes

-- those from a to e, as a slice has them
abbrev pub piece : List ℕ → ℕ → ℕ → List ℕ
piece w a e = take (e - a) (drop a w)

pub piece-nil : (w : List ℕ) (a : ℕ) → piece w a a ≡ []
piece-nil w a = let e : a - a ≡ 0 = omega arith in rw e

pub piece-add : (w : List ℕ) (a l : ℕ) → piece w a (a + l) ≡ take l (drop a w)
piece-add w a l = let e : a + l - a ≡ l = omega arith in rw e

-- ---- numbers of two bytes

pub pair-front : (w : List ℕ) (at : ℕ) → pair (drop at w) ≡ get_or w at 0 * 256 + get_or w (at + 1) 0
pair-front w at = rw (get_or-drop at w 0 0, add-zero at, get_or-drop at w 1 0)

pub length_pairs : (n : ℕ) (v : List ℕ) → length (pairs n v) ≡ n
length_pairs zero v = refl
length_pairs (suc n) v = ap suc (length_pairs n (drop 2 v))

pub pairs-at : (n i : ℕ) (v : List ℕ) → i < n → get_or (pairs n v) i 0 ≡ pair (drop (2 * i) v)
pairs-at zero i v h = absurd (omega arith)
pairs-at (suc n) zero v h = refl
pairs-at (suc n) (suc i) v h =
    let e : 2 + 2 * i ≡ 2 * suc i = omega arith in
    pairs-at n i (drop 2 v) (omega arith) ∙ ap pair (drop-drop (2 * i) 2 v ∙ ap (λ m. drop m v) e)

-- the i-th of n numbers from h on stands at g
pub pairs_next : (w : List ℕ) (h n i g l : ℕ) → i < n → g ≡ h + 2 * i → l ≡ pair (drop g w)
    → drop i (pairs n (drop h w)) ≡ l ∷ drop (i + 1) (pairs n (drop h w))
pairs_next w h n i g l k q e =
    let p = pairs n (drop h w) in
    let a : get_or p i 0 ≡ l = pairs-at n i (drop h w) k ∙ ap pair (drop-drop (2 * i) h w ∙ ap (λ m. drop m w) (sym q)) ∙ sym e in
    let b : i < length p = omega (arith, length_pairs n (drop h w)) in
    drop-cons p i 0 b ∙ rw (a, add-one)

-- none is left
pub pairs-over : (n i : ℕ) (v : List ℕ) → n ≤ i → drop i (pairs n v) ≡ []
pairs-over n i v h =
    let l : length (pairs n v) ≤ i = omega (arith, length_pairs n v) in
    drop_of_length-le (pairs n v) l

-- each is at most what two bytes say
pub total-most : (n : ℕ) (v : List ℕ) → Octets v → total (pairs n v) ≤ most_pair * n
total-most zero v b = omega arith
total-most (suc n) v b = omega (arith, b 0, b 1, total-most n (drop 2 v) (octets-drop 2 v b))

-- ---- the walk

drop-cut : (i : ℕ) (ls v : List ℕ) → drop i (cut ls v) ≡ cut (drop i ls) (drop (total (take i ls)) v)
drop-cut zero ls v = refl
drop-cut (suc i) [] v = refl
drop-cut (suc i) (l ∷ ls) v = drop-cut i ls (drop l v) ∙ ap (cut (drop i ls)) (drop-drop (total (take i ls)) l v)

-- the rows that are left
abbrev pub rest : List ℕ → Extent → ℕ → ℕ → List (List ℕ)
rest w x i o = cut (drop i (lengths_in w x)) (drop o w)

pub record Walk (w : List ℕ) (x : Extent) (i g o : ℕ) : Type 0 where
  pub passed : i ≤ x.count
  pub length_place : g ≡ x.lengths + 2 * i
  pub row_place : o + total (drop i (lengths_in w x)) ≡ end_of w x

pub walk_start : (w : List ℕ) (x : Extent) → Walk w x 0 x.lengths x.rows
walk_start w x = record { passed = omega arith; length_place = omega arith; row_place = refl }

-- a walk by its row alone: the next length stands where that row's does
pub in_place : {w : List ℕ} {x : Extent} {i g o : ℕ} → Walk w x i g o → Walk w x i (x.lengths + 2 * i) o
in_place k = record { passed = k.passed; length_place = refl; row_place = k.row_place }

-- at the start all rows are left
pub rest-start : (w : List ℕ) (x : Extent) → rest w x 0 x.rows ≡ rows_in w x
rest-start w x = refl

module _ {w : List ℕ} {x : Extent} {i g o : ℕ} (k : Walk w x i g o) where
  -- the length at g is within w
  pub walk-length : Inside w x → i < x.count → g + 2 ≤ length w
  walk-length s h = omega arith

  -- the row at o, of length l, is the next, and the others are left
  module _ (l : ℕ) (h : i < x.count) (e : l ≡ pair (drop g w)) where
    next : drop i (lengths_in w x) ≡ l ∷ drop (i + 1) (lengths_in w x)
    next = pairs_next w x.lengths x.count i g l h k.length_place e

    pub rest-next : rest w x i o ≡ take l (drop o w) ∷ rest w x (i + 1) (o + l)
    rest-next = rw (next, drop-drop l o w)

    -- the same, with the row as a slice has it
    pub rest-slice : rest w x i o ≡ piece w o (o + l) ∷ rest w x (i + 1) (o + l)
    rest-slice = rw (piece-add w o l) rest-next

    total-next : total (drop i (lengths_in w x)) ≡ l + total (drop (i + 1) (lengths_in w x))
    total-next = ap total next

    pub walk-next : Walk w x (i + 1) (g + 2) (o + l)
    walk-next = record {
      passed = omega arith;
      length_place = omega (arith, k.length_place);
      row_place = omega (arith, total-next, k.row_place);
    }

    pub walk-row : Inside w x → o + l ≤ length w
    walk-row s = omega (arith, total-next, k.row_place, s.rows_within)

  -- none is left, and the next row would begin where the extent ends
  pub rest_end : x.count ≤ i → rest w x i o ≡ []
  rest_end h = rw (pairs-over x.count i (drop x.lengths w) h)

  pub walk_end : x.count ≤ i → o ≡ end_of w x
  walk_end h = omega (arith, ap total (pairs-over x.count i (drop x.lengths w) h), k.row_place)

  -- they are the extent's but for those passed
  pub rest-drop : rest w x i o ≡ drop i (rows_in w x)
  rest-drop =
      let l = lengths_in w x in
      let e : o ≡ x.rows + total (take i l) = omega (arith, k.row_place, ap total (take-append-drop i l), total-append (take i l) (drop i l)) in
      sym (drop-cut i l (drop x.rows w) ∙ ap (cut (drop i l)) (drop-drop (total (take i l)) x.rows w ∙ ap (λ n. drop n w) (sym e)))

pub none_left : (w : List ℕ) (x : Extent) → drop x.count (rows_in w x) ≡ []
none_left w x =
    let k : Walk w x x.count (x.lengths + 2 * x.count) (end_of w x) =
    record {
      passed = omega arith;
      length_place = refl;
      row_place = omega (arith, ap total (pairs-over x.count x.count (drop x.lengths w) (omega arith)));
    } in
    sym (rest-drop k) ∙ rest_end k (omega arith)
