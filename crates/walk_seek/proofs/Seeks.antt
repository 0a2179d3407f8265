-- A bisection for the rows above parts (`Seek`): the rows from hi on are above, and of all rows only those from lo on may be. Assumes nothing.
use mathlib.Core.Path.{◌≡◌, refl, sym, ap, ◌∙◌}
use mathlib.Core.Bool.{Bool, true, false}
use mathlib.Core.List.{List, [], ◌∷◌, map}
use Prim.Native.Nat.{ℕ, zero, suc, ◌+◌, ◌-◌, ◌*◌, ◌≤◌}
use native.Mathlib.Omega.{arith}
use lib.ListN.{drop}
use lib.Seq.{drop-drop}
use Rattle.numbers.specs.Lists.{keep, every}
use Rattle.numbers.specs.Order.{before}
use Rattle.numbers.proofs.Keeps.{keep_all, keep-ext, keep-map}
use Rattle.numbers.proofs.Greatest.{Ascends}
use Rattle.rows.specs.declared.Table.{Table}
use Rattle.rows.specs.Rows.{index_of}
use Rattle.image_layout.specs.declared.Extent.{Extent}
use Rattle.image_layout.specs.declared.Middle.{Middle}
use Rattle.image_layout.specs.Bisection.{Between, MiddleRow}
use Rattle.image_layout.specs.Layout.{pairs, total, cut, extent, lengths_in, rows_in, Inside}
use Rattle.image_layout.proofs.Walks.{piece, Walk, rest-drop, none_left}
use Rattle.image_layout.proofs.Bisections.{between_start, between-walk, between-up, between-down, rows-from}
use Rattle.image_judge.specs.Faults.{table_fault, SoundTable}
use Rattle.image_judge.proofs.Sound.{whole-first, ascends-rows}
use Rattle.decision_steps.specs.Bytes.{Whole}
use Rattle.edit_rules.specs.TableRows.{row_of, row_index}
use Rattle.edit_rules.proofs.Outcomes.{row-index}
use Rattle.walk_seek.specs.Above.{Above}
use Rattle.walk_seek.proofs.Ranges.{above_from, above-behind, sound-drop}

-- the lengths of the last rows
pairs-drop : (i n m : ℕ) (v : List ℕ) → i + m ≡ n → pairs m (drop (2 * i) v) ≡ drop i (pairs n v)
pairs-drop zero n m v h = let e : m ≡ n = omega arith in ap (λ k. pairs k v) e
pairs-drop (suc i) zero m v h = absurd (omega arith)
pairs-drop (suc i) (suc n) m v h =
    let e : 2 * suc i ≡ 2 + 2 * i = omega arith in
    ap (pairs m) (ap (λ k. drop k v) e ∙ sym (drop-drop (2 * i) 2 v)) ∙ pairs-drop i n m (drop 2 v) (omega arith)

-- ---- the bisection

pub record Seek (t : Table) (w : List ℕ) (x : Extent) (parts : List ℕ) (lo hi o : ℕ) : Type 0 where
  pub between : Between w x lo hi o
  from_lo : keep (λ r. before parts (index_of t r)) (rows_in w x) ≡ keep (λ r. before parts (index_of t r)) (drop lo (rows_in w x))
  from_hi : every (λ r. before parts (index_of t r)) (drop hi (rows_in w x)) ≡ true

module _ {t : Table} {w : List ℕ} {x : Extent} (s : SoundTable t w x) (parts : List ℕ) where
  abbrev above : List ℕ → Bool
  above r = before parts (index_of t r)

  abbrev rows : List (List ℕ)
  rows = rows_in w x

  ascends : Ascends (index_of t) rows
  ascends = ascends-rows t [] rows s.rows_sound

  pub seek-start : Seek t w x parts 0 x.count x.rows
  seek-start = record { between = between_start w x; from_lo = refl; from_hi = ap (every above) (none_left w x) }

  module _ {lo hi o : ℕ} (k : Seek t w x parts lo hi o) where
    -- the row in the middle
    module _ {r : Middle} (m : MiddleRow w x lo hi r) where
      abbrev row : List ℕ
      row = piece w r.from r.end

      drops : drop r.row rows ≡ row ∷ drop (r.row + 1) rows
      drops = rows-from k.between m

      pub middle-whole : Whole t row
      middle-whole =
          whole-first t [] row (drop (r.row + 1) rows) (sym (ap (table_fault t []) drops) ∙ sound-drop t r.row [] rows s.rows_sound)

      test : {b : Bool} → before parts (row_index t (row_of t row)) ≡ b → above row ≡ b
      test h = sym (ap (before parts) (row-index t row)) ∙ h

      pub seek-down : before parts (row_index t (row_of t row)) ≡ true → Seek t w x parts lo r.row o
      seek-down h = record {
        between = between-down k.between m;
        from_lo = k.from_lo;
        from_hi = above_from (index_of t) parts r.row rows ascends drops (test h);
      }

      pub seek-up : before parts (row_index t (row_of t row)) ≡ false → Seek t w x parts (r.row + 1) hi r.end
      seek-up h = record {
        between = between-up k.between m;
        from_lo = above-behind (index_of t) parts r.row rows ascends drops (test h);
        from_hi = k.from_hi;
      }

    -- the rows from lo on, as an extent of their own
    abbrev found : Extent
    found = extent (x.lengths + 2 * lo) o (x.count - lo)

    abbrev walk : Walk w x lo (x.lengths + 2 * lo) o
    walk = between-walk k.between

    found-lengths : lengths_in w found ≡ drop lo (lengths_in w x)
    found-lengths =
        ap (λ v. pairs (x.count - lo) v) (sym (drop-drop (2 * lo) x.lengths w))
        ∙ pairs-drop lo x.count (x.count - lo) (drop x.lengths w) (omega (arith, walk.passed))

    found_rows : rows_in w found ≡ drop lo rows
    found_rows = ap (λ ls. cut ls (drop o w)) found-lengths ∙ rest-drop walk

    found_inside : Inside w found
    found_inside = record {
      lengths_within = omega (arith, walk.passed, s.inside.lengths_within);
      rows_within = omega (arith, ap total found-lengths, walk.row_place, s.inside.rows_within);
    }

    pub seek-end : hi ≤ lo → Above t w x parts found
    seek-end h = record {
      sound = record { inside = found_inside; rows_sound = ap (λ rs. table_fault t [] rs) found_rows ∙ sound-drop t lo [] rows s.rows_sound };
      are =
          let e : lo ≡ hi = omega (arith, k.between.ordered) in
          let all : every above (drop lo rows) ≡ true = ap (λ m. every above (drop m rows)) e ∙ k.from_hi in
          ap (map (row_of t)) (found_rows ∙ sym (k.from_lo ∙ keep_all above (drop lo rows) all)
          ∙ keep-ext above _ rows (λ r. ap (before parts) (sym (row-index t r))))
          ∙ sym (keep-map (row_of t) (λ r. before parts (row_index t r)) rows);
    }
