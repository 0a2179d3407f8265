-- Step 5 in one pass. Rows of a sound view table ascend, and so do those behind any place: so step 5's choice among them is the last that is in the
-- view and matches (`passed-latest`). Passing one row more in front, or any number, puts rows before that list: its own last counts if it has one
-- (`latest-some`), and if not, that of the rows put before it (`latest-none`). Assumes nothing.
use mathlib.Core.Path.{◌≡◌, refl, sym, ap, subst, ◌∙◌}
use mathlib.Core.Bool.{Bool, true, false, cond}
use mathlib.Core.List.{List, [], ◌++◌, map, map-append}
use mathlib.Core.Option.{none, some}
use Prim.Native.Nat.{ℕ, ◌+◌, ◌-◌, ◌*◌, ◌≤◌, ◌<◌}
use native.Mathlib.Omega.{arith}
use lib.ListN.{take, drop, take-append-drop}
use lib.Seq.{drop-drop}
use Rattle.std.specs.Prelude.{Some, None}
use Rattle.numbers.specs.Scans.{latest}
use Rattle.numbers.proofs.Bools.{split}
use Rattle.numbers.proofs.Scans.{latest-append, latest-some, latest-none}
use Rattle.numbers.proofs.Greatest.{ascends-drop}
use Rattle.rows.specs.declared.Table.TheVariants.{View}
use Rattle.rows.specs.Rows.{ViewRow, view_of, index_of}
use Rattle.image_layout.specs.declared.Extent.{Extent}
use Rattle.image_layout.specs.Layout.{pair, rows_in, end_of}
use Rattle.image_layout.proofs.Walks.{piece, Walk, rest_end}
use Rattle.image_judge.specs.Faults.{SoundTable}
use Rattle.image_judge.proofs.Sound.{ascends-rows}
use Rattle.decision_steps.specs.Decision.{chosen_view}
use Rattle.decision_steps.proofs.Choices.{chosen-latest-of}
use Rattle.decision_views.specs.Matching.{matching}
use Rattle.decision_find.specs.Types.{Found}
use Rattle.decision_find.specs.Found.{Chosen, rows_of_view}
use Rattle.decision_find.specs.OnePass.{passed, Carried, NextRow, carry, OnePass, InOnePass}
use Rattle.decision_find.proofs.Backwards.{row-whole, rest-drop, back_start, back-place, back-walk, back-drop}
use Rattle.decision_find.proofs.Chosen.{held_none, chosen}

module _ (name variable : List ℕ) {w : List ℕ} {x : Extent} (t : SoundTable View w x) where
  abbrev fits : ViewRow → Bool
  fits = matching name variable

  abbrev behind : ℕ → List ViewRow
  behind i = map view_of (drop i (rows_in w x))

  passed-latest : (i : ℕ) → latest fits none (behind i) ≡ chosen_view variable (passed name w x i)
  passed-latest i =
      chosen-latest-of name variable (drop i (rows_in w x)) (ascends-drop (index_of View) i (rows_in w x) (ascends-rows View [] (rows_in w x) t.rows_sound))

  -- the next row
  module _ (i at end : ℕ) (n : NextRow w x i at end) where
    abbrev row : List ℕ
    row = take (end - at) (drop at w)

    latest-next : latest fits none (behind (i - 1)) ≡ latest fits (cond (fits (view_of row)) (some (view_of row)) none) (behind i)
    latest-next = ap (λ rs. latest fits none (map view_of rs)) n.is

    step_row : (a e : ℕ) → Carried name variable w x i (Some (a, e)) → Carried name variable w x (i - 1) (Some (a, e))
    step_row a e k =
        let y = view_of (take (e - a) (drop a w)) in
        let l : latest fits none (behind i) ≡ some y = passed-latest i ∙ sym k.is.is in
        let m = latest-next ∙ latest-some fits _ (behind i) y l in
        record { is = record { lies = k.is.lies; whole = k.is.whole; is = sym m ∙ passed-latest (i - 1) } }

    step-nothing : Carried name variable w x i None
        → Carried name variable w x (i - 1) (cond (fits (view_of row)) (Some (at, end)) None)
    step-nothing k =
        let l : latest fits none (behind i) ≡ none = passed-latest i ∙ sym k.is.is in
        let m = latest-next ∙ latest-none fits _ (behind i) l in
        split (fits (view_of row))
        (λ q. rw q (record { is = record { lies = n.lies; whole = row-whole t (i - 1) n.is; is = sym (rw q at m) ∙ passed-latest (i - 1) } }))
        (λ q. rw q (record { is = chosen (held_none View w) (sym (rw q at m) ∙ passed-latest (i - 1)) }))

  pass-start : Carried name variable w x x.count None
  pass-start =
      let k = back_start w x refl refl refl in
      let z : drop x.count (rows_in w x) ≡ [] = sym (rest-drop k) ∙ rest_end k (omega arith) in
      record { is = chosen (held_none View w) (ap (λ rs. latest fits none (map view_of rs)) (sym z) ∙ passed-latest x.count) }

  pass_step : (i at end : ℕ) (found : Found) → NextRow w x i at end → Carried name variable w x i found
      → Carried name variable w x (i - 1) (carry found (fits (view_of (take (end - at) (drop at w)))) (Some (at, end)))
  pass_step i at end (Some (a, e)) n k = step_row i at end n a e k
  pass_step i at end None n k = step-nothing i at end n k

  pass-stays : (i j at end : ℕ) → j ≤ i → Carried name variable w x i (Some (at, end)) → Carried name variable w x j (Some (at, end))
  pass-stays i j at end h k =
      let y = view_of (take (end - at) (drop at w)) in
      let l : latest fits none (behind i) ≡ some y = passed-latest i ∙ sym k.is.is in
      let between = take (i - j) (drop j (rows_in w x)) in
      let d : drop j (rows_in w x) ≡ between ++ drop i (rows_in w x) =
      let m : j + (i - j) ≡ i = omega arith in
      sym (take-append-drop (i - j) (drop j (rows_in w x)))
      ∙ ap (λ u. between ++ u) (drop-drop (i - j) j (rows_in w x) ∙ ap (λ m. drop m (rows_in w x)) m) in
      let m : latest fits none (behind j) ≡ some y =
      ap (λ rs. latest fits none (map view_of rs)) d
      ∙ ap (latest fits none) (map-append view_of between _)
      ∙ latest-append fits none (map view_of between) (behind i)
      ∙ latest-some fits _ (behind i) y l in
      record { is = record { lies = k.is.lies; whole = k.is.whole; is = sym m ∙ passed-latest j } }

pub in-one-pass : InOnePass
in-one-pass name variable w x t = record { start = pass-start name variable t; step = pass_step name variable t; stays = pass-stays name variable t }

-- ---- the walk of `find_view_row`: i rows are left in front, and of those passed none is carried

pub record Passing (name variable w : List ℕ) (x : Extent) (i g e : ℕ) : Type 0 where
  pub walk : Walk w x i g e
  pub carried : Carried name variable w x i None

module _ (name variable : List ℕ) {w : List ℕ} {x : Extent} (t : SoundTable View w x) where
  abbrev pass : OnePass name variable w x
  pass = in-one-pass name variable w x t

  pub passing-start : {n g e : ℕ} → x.count ≡ n → x.lengths + 2 * x.count ≡ g → e ≡ end_of w x → Passing name variable w x n g e
  passing-start {n} c q r = record { walk = back_start w x c q r; carried = subst (λ m. Carried name variable w x m None) c pass.start }

  module _ {i g e : ℕ} (k : Passing name variable w x i g e) where
    -- none is left in front
    pub passing-none : i ≤ 0 → Chosen View view_of w None (chosen_view variable (rows_of_view name w x))
    passing-none h = let z : i ≡ 0 = omega arith in rw z at k.carried.is

    -- the row before e, of length l
    module _ (h : 0 < i) (l : ℕ) (q : l ≡ pair (drop (g - 2) w)) where
      next : NextRow w x i (e - l) e
      next = record {
        some = h;
        lies = record { starts = omega arith; ends = back-place k.walk t.inside };
        is = back-drop k.walk h l q;
      }

      pub passing-next : matching name variable (view_of (piece w (e - l) e)) ≡ false → Passing name variable w x (i - 1) (g - 2) (e - l)
      passing-next n = record { walk = back-walk k.walk h l q; carried = rw n at (pass.step i (e - l) e None next k.carried) }

      pub passing-found : matching name variable (view_of (piece w (e - l) e)) ≡ true
          → Chosen View view_of w (Some ((e - l), e)) (chosen_view variable (rows_of_view name w x))
      passing-found n =
          let c : Carried name variable w x (i - 1) (Some ((e - l), e)) = rw n at (pass.step i (e - l) e None next k.carried) in
          (pass.stays (i - 1) 0 (e - l) e (omega arith) c).is
