-- A walk over the rows of a sound table: those that are left are sound, behind an index (`SoundWalk`).
-- So the next row has no fault, and the walk goes on behind its own index. Assumes nothing.
use mathlib.Core.Path.{◌≡◌, sym, ap, ◌∙◌}
use mathlib.Core.List.{List, [], ◌∷◌}
use mathlib.Core.Option.{none}
use Prim.Native.Nat.{ℕ, ◌+◌, ◌*◌, ◌≤◌, ◌<◌}
use lib.ListN.{length, drop}
use Rattle.rows.specs.declared.Table.{Table}
use Rattle.rows.specs.Fields.{faults}
use Rattle.rows.specs.Rows.{row_fields, index_of}
use Rattle.image_layout.specs.declared.Extent.{Extent}
use Rattle.image_layout.specs.Layout.{pair, Inside}
use Rattle.image_judge.specs.Faults.{table_fault, SoundTable}
use Rattle.image_layout.proofs.Walks.{piece, rest, Walk, walk_start, walk-length, rest-slice, walk-next, walk-row, in_place}
use Rattle.image_judge.proofs.Sound.{whole-first, sound-rest}

pub record SoundWalk (t : Table) (w : List ℕ) (x : Extent) (i g o : ℕ) : Type 0 where
  pub walk : Walk w x i g o
  pub inside : Inside w x
  pub prev : List ℕ
  pub left : table_fault t prev (rest w x i o) ≡ none

pub sound-start : {t : Table} {w : List ℕ} {x : Extent} → SoundTable t w x → SoundWalk t w x 0 x.lengths x.rows
sound-start {t} {w} {x} s = record { walk = walk_start w x; inside = s.inside; prev = []; left = s.rows_sound }

-- by its row alone
pub sound_in_place : {t : Table} {w : List ℕ} {x : Extent} {i g o : ℕ} → SoundWalk t w x i g o → SoundWalk t w x i (x.lengths + 2 * i) o
sound_in_place k = record { walk = in_place k.walk; inside = k.inside; prev = k.prev; left = k.left }

module _ {t : Table} {w : List ℕ} {x : Extent} {i g o : ℕ} (k : SoundWalk t w x i g o) (h : i < x.count) where
  -- the length at g lies within w
  pub sound-length : g + 2 ≤ length w
  sound-length = walk-length k.walk k.inside h

  -- the next row, of length l
  module _ (l : ℕ) (e : l ≡ pair (drop g w)) where
    goes : table_fault t k.prev (piece w o (o + l) ∷ rest w x (i + 1) (o + l)) ≡ none
    goes = sym (ap (table_fault t k.prev) (rest-slice k.walk l h e)) ∙ k.left

    pub sound-row : o + l ≤ length w
    sound-row = walk-row k.walk l h e k.inside

    pub sound-whole : faults (row_fields t) (piece w o (o + l)) ≡ none
    sound-whole = whole-first t k.prev _ _ goes

    pub sound-next : SoundWalk t w x (i + 1) (g + 2) (o + l)
    sound-next = record {
      walk = walk-next k.walk l h e;
      inside = k.inside;
      prev = index_of t (piece w o (o + l));
      left = sound-rest t k.prev _ _ goes;
    }
