-- A table scanned: a walk over the rows of a sound table, and a scan of the rows that are left which gives what the whole scan gives.
-- At the start all rows are left. The next row lies within w, is whole, and is the first that is left: where the scan of it and the
-- others is a scan of the others, the walk goes on with that one. When none is left, the scan of none is the whole one's.
-- A scan for the first row that passes a test finds the row that does, or goes on; one of the rows' bytes is one of the rows read. Assumes nothing.
use mathlib.Core.Path.{◌≡◌, refl, sym, ap, ◌∙◌}
use mathlib.Core.Bool.{Bool, true, false}
use mathlib.Core.List.{List, [], ◌∷◌}
use mathlib.Core.Option
use mathlib.Core.Option.{Option, none, some}
use Prim.Native.Nat.{ℕ, ◌+◌, ◌*◌, ◌≤◌, ◌<◌}
use native.Mathlib.Omega.{arith}
use lib.ListN.{length, drop}
use Rattle.std.specs.Prelude.{Some, None}
use Rattle.numbers.proofs.Bools.{cond-true, split}
use Rattle.rows.specs.declared.Table.{Table}
use Rattle.image_layout.specs.declared.Extent.{Extent}
use Rattle.image_layout.specs.Layout.{pair, rows_in}
use Rattle.image_judge.specs.Faults.{SoundTable}
use Rattle.image_layout.proofs.Walks.{piece, rest, rest-slice, rest_end}
use Rattle.image_judge.proofs.SoundWalks.{SoundWalk, sound-start, sound_in_place, sound-length, sound-row, sound-whole, sound-next}
use Rattle.decision_steps.specs.Bytes.{Whole}
use Rattle.decision_find.specs.Types.{Found}
use Rattle.decision_find.specs.Found.{bytes_at, first_of, Chosen}

pub record Scan {R : Type 0} (t : Table) (w : List ℕ) (x : Extent) (scan : List (List ℕ) → R) (all : R) (i g o : ℕ) : Type 0 where
  pub walk : SoundWalk t w x i g o
  pub same : scan (rest w x i o) ≡ all

pub scan-start : {R : Type 0} {t : Table} {w : List ℕ} {x : Extent} (scan : List (List ℕ) → R) → SoundTable t w x
    → Scan t w x scan (scan (rows_in w x)) 0 x.lengths x.rows
scan-start scan s = record { walk = sound-start s; same = refl }

-- by its row alone
pub scan_in_place : {R : Type 0} {t : Table} {w : List ℕ} {x : Extent} {scan : List (List ℕ) → R} {all : R} {i g o : ℕ} → Scan t w x scan all i g o
    → Scan t w x scan all i (x.lengths + 2 * i) o
scan_in_place k = record { walk = sound_in_place k.walk; same = k.same }

module _ {R : Type 0} {t : Table} {w : List ℕ} {x : Extent} {scan : List (List ℕ) → R} {all : R} {i g o : ℕ} (k : Scan t w x scan all i g o) where
  pub scan-end : x.count ≤ i → scan [] ≡ all
  scan-end h = sym (ap scan (rest_end k.walk.walk h)) ∙ k.same

  -- the length at g lies within w
  pub scan-length : i < x.count → g + 2 ≤ length w
  scan-length h = sound-length k.walk h

  -- the next row, of length l
  module _ (h : i < x.count) (l : ℕ) (e : l ≡ pair (drop g w)) where
    pub scan-row : o + l ≤ length w
    scan-row = sound-row k.walk h l e

    pub scan-whole : Whole t (piece w o (o + l))
    scan-whole = sound-whole k.walk h l e

    pub scan-first : scan (piece w o (o + l) ∷ rest w x (i + 1) (o + l)) ≡ all
    scan-first = sym (ap scan (rest-slice k.walk.walk l h e)) ∙ k.same

    pub scan-next : (scan' : List (List ℕ) → R) → ((rs : List (List ℕ)) → scan (piece w o (o + l) ∷ rs) ≡ scan' rs)
        → Scan t w x scan' all (i + 1) (g + 2) (o + l)
    scan-next scan' q = record { walk = sound-next k.walk h l e; same = sym (q (rest w x (i + 1) (o + l))) ∙ scan-first }

-- ---- a scan for the first row that passes a test

module _ {R : Type 0} {t : Table} {of : List ℕ → R} (p : R → Bool) {w : List ℕ} {x : Extent} {all : Option R} {i g o : ℕ}
    (k : Scan t w x (first_of of p) all i g o) where
  -- none is left
  pub first-none : x.count ≤ i → Chosen t of w None all
  first-none h = record { lies = tt; whole = tt; is = scan-end k h }

  -- the next row, of length l, passes or not
  module _ (h : i < x.count) (l : ℕ) (e : l ≡ pair (drop g w)) where
    pub first_found : p (of (piece w o (o + l))) ≡ true → Chosen t of w (Some (o, (o + l))) all
    first_found q = record {
      lies = record { starts = omega arith; ends = scan-row k h l e };
      whole = scan-whole k h l e;
      is = sym (cond-true _ _ q) ∙ scan-first k h l e;
    }

    pub first-passed : p (of (piece w o (o + l))) ≡ false → Scan t w x (first_of of p) all (i + 1) (g + 2) (o + l)
    first-passed q = scan-next k h l e _ (λ rs. rw q)

-- ---- what is found among the rows' bytes, read by `of`

module _ {R : Type 0} (of : List ℕ → R) where
  read-bytes : (o : Option (List ℕ)) → Option.map of (Option.map (λ row. row) o) ≡ Option.map of o
  read-bytes none = refl
  read-bytes (some row) = refl

  module _ (p : R → Bool) where
    read-first : (rows : List (List ℕ)) → Option.map of (first_of (λ row. row) (λ row. p (of row)) rows) ≡ first_of of p rows
    read-first [] = refl
    read-first (row ∷ rows) = split (p (of row)) (λ q. rw q refl) (λ q. rw q (read-first rows))

    pub chosen-read : {t : Table} {w : List ℕ} {found : Found} (rows : List (List ℕ)) → Chosen t (λ row. row) w found (first_of (λ row. row) (λ row. p (of row)) rows)
        → Chosen t of w found (first_of of p rows)
    chosen-read {t} {w} {found} rows k =
        record { lies = k.lies; whole = k.whole; is = sym (read-bytes (bytes_at w found)) ∙ ap (Option.map of) k.is ∙ read-first rows }
