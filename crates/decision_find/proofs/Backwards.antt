-- A walk over the rows of an extent from the end: i rows are left in front, the length of the last of them stands before g, and it ends at e.
-- That is the walk of image's `Walks` at that place, so the rows behind it are the extent's but for the first i (`rest-drop`). A step back
-- takes the row before e: its length is no more than e, since the lengths in front of e sum up to it. Of a sound table that row is whole.
-- Assumes nothing.
use mathlib.Core.Path.{◌≡◌, refl, sym, ap, ◌∙◌}
use mathlib.Core.Bool.{Bool, true}
use mathlib.Core.List.{List, [], ◌∷◌, ◌++◌}
use Prim.Native.Nat.{ℕ, zero, suc, ◌+◌, ◌-◌, ◌*◌, ◌≤◌, ◌<◌}
use native.Mathlib.Omega.{arith}
use lib.ListN.{length, take, drop, take-append-drop}
use lib.Seq.{drop-drop}
use Rattle.numbers.specs.Lists.{every, is_none}
use Rattle.numbers.proofs.Options.{is-none}
use Rattle.numbers.proofs.Bools.{and_left, and_right}
use Rattle.numbers.proofs.Keeps.{every_append}
use Rattle.rows.specs.declared.Table.{Table}
use Rattle.rows.specs.Fields.{faults}
use Rattle.rows.specs.Rows.{row_fields}
use Rattle.image_layout.specs.declared.Extent.{Extent}
use Rattle.image_layout.specs.Layout.{pair, total, cut, lengths_in, rows_in, end_of, Inside}
use Rattle.image_judge.specs.Faults.{SoundTable}
use Rattle.image_layout.proofs.Walks.{piece, rest, pairs_next, pairs-over, Walk, rest-slice}
use Rattle.image_judge.proofs.Sound.{every-whole}
use Rattle.decision_steps.specs.Bytes.{Whole}

-- ---- rows behind the first i

pub total-parts : (i : ℕ) (ls : List ℕ) → total ls ≡ total (take i ls) + total (drop i ls)
total-parts zero ls = omega arith
total-parts (suc i) [] = refl
total-parts (suc i) (l ∷ ls) = omega (arith, total-parts i ls)

cut-drop : (i : ℕ) (ls v : List ℕ) → drop i (cut ls v) ≡ cut (drop i ls) (drop (total (take i ls)) v)
cut-drop zero ls v = refl
cut-drop (suc i) [] v = refl
cut-drop (suc i) (l ∷ ls) v = cut-drop i ls (drop l v) ∙ ap (cut (drop i ls)) (drop-drop (total (take i ls)) l v)

pub rest-drop : {w : List ℕ} {x : Extent} {i g o : ℕ} → Walk w x i g o → rest w x i o ≡ drop i (rows_in w x)
rest-drop {w} {x} {i} {g} {o} k =
    let ls = lengths_in w x in
    let e : x.rows + total (take i ls) ≡ o = omega (arith, total-parts i ls, k.row_place) in
    sym (cut-drop i ls (drop x.rows w) ∙ ap (cut (drop i ls)) (drop-drop (total (take i ls)) x.rows w ∙ ap (λ m. drop m w) e))

pub rest-behind : {w : List ℕ} {x : Extent} {i g o : ℕ} → Walk w x i g o → rows_in w x ≡ take i (rows_in w x) ++ rest w x i o
rest-behind {w} {x} {i} k = sym (take-append-drop i (rows_in w x)) ∙ ap (λ u. take i (rows_in w x) ++ u) (sym (rest-drop k))

-- the first of them is whole, where the table is sound
pub row-whole : {t : Table} {w : List ℕ} {x : Extent} → SoundTable t w x → (i : ℕ) {r : List ℕ} {rs : List (List ℕ)}
    → drop i (rows_in w x) ≡ r ∷ rs → Whole t r
row-whole {t} {w} {x} s i e =
    let p : List ℕ → Bool = λ r. is_none (faults (row_fields t) r) in
    let rows = rows_in w x in
    let a : every p (take i rows ++ drop i rows) ≡ true = ap (every p) (take-append-drop i rows) ∙ every-whole t [] rows s.rows_sound in
    let b = and_right (every p (take i rows)) _ (sym (every_append p (take i rows) _) ∙ a) in
    is-none _ (and_left _ _ (sym (ap (every p) e) ∙ b))

-- ---- the walk

pub back_start : (w : List ℕ) (x : Extent) {n g e : ℕ} → x.count ≡ n → x.lengths + 2 * x.count ≡ g → e ≡ end_of w x → Walk w x n g e
back_start w x {n} p q r = record {
  passed = omega arith;
  length_place = omega arith;
  row_place = omega (arith, ap total (pairs-over x.count n (drop x.lengths w) (omega arith)));
}

module _ {w : List ℕ} {x : Extent} {i g e : ℕ} (k : Walk w x i g e) where
  -- no row is left in front
  pub back_end : i ≤ 0 → rest w x i e ≡ rows_in w x
  back_end h = let z : i ≡ 0 = omega arith in rest-drop k ∙ ap (λ n. drop n (rows_in w x)) z

  pub back-place : Inside w x → e ≤ length w
  back-place s = omega (arith, k.row_place, s.rows_within)

  module _ (h : 0 < i) where
    pub back-length : Inside w x → (2 ≤ g) × (g - 2 + 2 ≤ length w)
    back-length s = (omega (arith, k.length_place), omega (arith, k.length_place, k.passed, s.lengths_within))

    -- the row before e, of length l
    module _ (l : ℕ) (q : l ≡ pair (drop (g - 2) w)) where
      one_more : drop (i - 1) (lengths_in w x) ≡ l ∷ drop i (lengths_in w x)
      one_more =
          let n : i - 1 + 1 ≡ i = omega arith in
          pairs_next w x.lengths x.count (i - 1) (g - 2) l (omega (arith, k.passed)) (omega (arith, k.length_place)) q
          ∙ rw n

      pub back-row : l ≤ e
      back-row = omega (arith, ap total one_more, total-parts (i - 1) (lengths_in w x), k.row_place)

      pub back-walk : Walk w x (i - 1) (g - 2) (e - l)
      back-walk = record {
        passed = omega (arith, k.passed);
        length_place = omega (arith, k.length_place);
        row_place = omega (arith, ap total one_more, back-row, k.row_place);
      }

      pub back-rest : rest w x (i - 1) (e - l) ≡ piece w (e - l) e ∷ rest w x i e
      back-rest =
          let n : i - 1 + 1 ≡ i = omega arith in
          let m : e - l + l ≡ e = omega (arith, back-row) in
          rw (n, m) at (rest-slice back-walk l (omega (arith, k.passed)) q)

      pub back-drop : drop (i - 1) (rows_in w x) ≡ piece w (e - l) e ∷ drop i (rows_in w x)
      back-drop = sym (rest-drop back-walk) ∙ back-rest ∙ ap (λ u. piece w (e - l) e ∷ u) (rest-drop k)

      pub back-rows : rows_in w x ≡ take (i - 1) (rows_in w x) ++ (piece w (e - l) e ∷ rest w x i e)
      back-rows = rest-behind back-walk ∙ ap (λ u. take (i - 1) (rows_in w x) ++ u) back-rest

      pub back_whole : {t : Table} → SoundTable t w x → Whole t (piece w (e - l) e)
      back_whole s = row-whole s (i - 1) back-drop
