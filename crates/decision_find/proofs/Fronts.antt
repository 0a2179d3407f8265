-- The first rows of an extent are an extent themselves: its rows are the first of them, they lie within w, and nothing is wrong with them.
-- Assumes nothing.
use mathlib.Core.Path.{◌≡◌, refl, ap, ◌∙◌}
use mathlib.Core.List.{List, [], ◌∷◌}
use mathlib.Core.Option.{none}
use Prim.Native.Nat.{ℕ, zero, suc, ◌≤◌}
use native.Mathlib.Omega.{arith}
use lib.ListN.{take, drop}
use Rattle.rows.specs.declared.Table.{Table}
use Rattle.rows.specs.Rows.{index_of}
use Rattle.image_layout.specs.declared.Extent.{Extent}
use Rattle.image_layout.specs.Layout.{pair, pairs, total, cut, lengths_in, rows_in, extent, end_of}
use Rattle.image_layout.proofs.Walks.{Walk}
use Rattle.image_judge.specs.Faults.{table_fault, SoundTable}
use Rattle.image_judge.proofs.Sound.{fault-nil, fault-rest, whole-first, before-first, sound-rest}
use Rattle.decision_find.proofs.Backwards.{total-parts}

pairs-front : (i n : ℕ) (v : List ℕ) → i ≤ n → pairs i v ≡ take i (pairs n v)
pairs-front zero n v h = refl
pairs-front (suc i) zero v h = absurd (omega arith)
pairs-front (suc i) (suc n) v h = ap (λ u. pair v ∷ u) (pairs-front i n (drop 2 v) (omega arith))

cut-front : (i : ℕ) (ls v : List ℕ) → cut (take i ls) v ≡ take i (cut ls v)
cut-front zero ls v = refl
cut-front (suc i) [] v = refl
cut-front (suc i) (l ∷ ls) v = ap (λ u. take l v ∷ u) (cut-front i ls (drop l v))

fault-front : (t : Table) (i : ℕ) (prev : List ℕ) (rs : List (List ℕ)) → table_fault t prev rs ≡ none → table_fault t prev (take i rs) ≡ none
fault-front t zero prev rs h = fault-nil t prev
fault-front t (suc i) prev [] h = h
fault-front t (suc i) prev (r ∷ rs) h =
    fault-rest t prev r (take i rs) (whole-first t prev r rs h) (before-first t prev r rs h)
    ∙ fault-front t i (index_of t r) rs (sound-rest t prev r rs h)

module _ {w : List ℕ} {x : Extent} {i g e : ℕ} (k : Walk w x i g e) where
  abbrev front : Extent
  front = extent x.lengths x.rows i

  front-lengths : lengths_in w front ≡ take i (lengths_in w x)
  front-lengths = pairs-front i x.count (drop x.lengths w) k.passed

  pub front-rows : rows_in w front ≡ take i (rows_in w x)
  front-rows = ap (λ ls. cut ls (drop x.rows w)) front-lengths ∙ cut-front i (lengths_in w x) (drop x.rows w)

  pub front-end : e ≡ end_of w front
  front-end = omega (arith, k.row_place, ap total front-lengths, total-parts i (lengths_in w x))

  pub front-sound : {t : Table} → SoundTable t w x → SoundTable t w front
  front-sound {t} s = record {
    inside = record {
      lengths_within = omega (arith, k.passed, s.inside.lengths_within);
      rows_within = omega (arith, front-end, k.row_place, s.inside.rows_within);
    };
    rows_sound = rw front-rows (fault-front t i [] (rows_in w x) s.rows_sound);
  }
