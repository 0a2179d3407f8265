-- The best access row in one pass over a table: what is carried has the rank that is carried, so that a row of a greater rank takes its place and any
-- other leaves it; at the end it is the choice of step 3, since levels and prefixes are in their ranges. Assumes nothing.
use mathlib.Core.Path.{◌≡◌, refl, ap, ◌∙◌}
use mathlib.Core.List.{List, [], map}
use mathlib.Core.Option
use mathlib.Core.Option.{Option, none, some}
use Prim.Native.Nat.{ℕ, ◌+◌, ◌*◌, ◌≤◌, ◌<◌}
use native.Mathlib.Omega.{arith}
use lib.ListN.{length, drop}
use lib.Dec.{ltb}
use borrow.Author.Tests.{lt-ltb, le-ltb}
use Rattle.std.specs.Prelude.{Some, None}
use Rattle.numbers.specs.Scans.{better, best}
use Rattle.rows.specs.declared.Table.TheVariants.{Access}
use Rattle.rows.specs.Rows.{AccessRow, access_of}
use Rattle.image_layout.specs.declared.Extent.{Extent}
use Rattle.image_layout.specs.Layout.{pair, rows_in}
use Rattle.image_judge.specs.Faults.{table_fault, SoundTable}
use Rattle.image_layout.proofs.Walks.{piece}
use Rattle.decision_steps.specs.Decision.{chosen_access}
use Rattle.decision_steps.specs.Bytes.{rank_of}
use Rattle.decision_steps.proofs.Choices.{chosen-best}
use Rattle.decision_steps.proofs.Layouts.{access-ranked}
use Rattle.decision_find.specs.Types.{Found}
use Rattle.decision_find.specs.Found.{bytes_at, Chosen}
use Rattle.decision_find.proofs.Chosen.{every_of, Held, held_none, held-row, chosen}
use Rattle.decision_find.proofs.Scans.{Scan, scan-start, scan_in_place, scan-row, scan-whole, scan-next, scan-end}

best-chosen : (group : List ℕ) (model level : ℕ) (context : List ℕ) (rows : List (List ℕ)) → table_fault Access [] rows ≡ none
    → best (rank_of group model level context) none (map access_of rows) ≡ chosen_access group model level context (map access_of rows)
best-chosen group model level context rows h =
    chosen-best group model level context (map access_of rows)
    (every_of Access access_of (λ a. ltb a.security_level 4) (λ r e. (access-ranked r e).low) rows h)
    (every_of Access access_of (λ a. ltb 0 a.security_level) (λ r e. (access-ranked r e).some) rows h)
    (every_of Access access_of (λ a. ltb (length a.context_prefix) 64) (λ r e. (access-ranked r e).short) rows h)

module _ {A : Type 0} (f : A → ℕ) where
  -- the rank of what is carried
  abbrev rank_in : Option A → ℕ
  rank_in none = 0
  rank_in (some x) = f x

  better-above : (o : Option A) (x : A) → rank_in o < f x → better f o x ≡ some x
  better-above none x h = rw (lt-ltb 0 (f x) h)
  better-above (some y) x h = rw (lt-ltb (f y) (f x) h)

  better-below : (o : Option A) (x : A) → f x ≤ rank_in o → better f o x ≡ o
  better-below none x h = rw (le-ltb 0 (f x) h)
  better-below (some y) x h = rw (le-ltb (f y) (f x) h)

-- the access row that is carried
abbrev access : List ℕ → Found → Option AccessRow
access w found = Option.map access_of (bytes_at w found)

abbrev best_from : (AccessRow → ℕ) → List ℕ → Found → List (List ℕ) → Option AccessRow
best_from rank w found rs = best rank (access w found) (map access_of rs)

pub record Best (rank : AccessRow → ℕ) (w : List ℕ) (x : Extent) (i g o r : ℕ) (found : Found) : Type 0 where
  pub scan : Scan Access w x (best_from rank w found) (best_from rank w None (rows_in w x)) i g o
  pub held : Held Access w found
  pub ranked : r ≡ rank_in rank (access w found)

pub best-start : (rank : AccessRow → ℕ) {w : List ℕ} {x : Extent} → SoundTable Access w x → Best rank w x 0 x.lengths x.rows 0 None
best-start rank {w} s = record { scan = scan-start (best_from rank w None) s; held = held_none Access w; ranked = refl }

-- by its row alone
pub best_in_place : {rank : AccessRow → ℕ} {w : List ℕ} {x : Extent} {i g o r : ℕ} {found : Found} → Best rank w x i g o r found
    → Best rank w x i (x.lengths + 2 * i) o r found
best_in_place k = record { scan = scan_in_place k.scan; held = k.held; ranked = k.ranked }

module _ {rank : AccessRow → ℕ} {w : List ℕ} {x : Extent} {i g o r : ℕ} {found : Found} (k : Best rank w x i g o r found)
    (h : i < x.count) (l : ℕ) (e : l ≡ pair (drop g w)) (q : ℕ) (d : q ≡ rank (access_of (piece w o (o + l)))) where
  -- the next row takes its place
  pub best-above : r < q → Best rank w x (i + 1) (g + 2) (o + l) q (Some (o, (o + l)))
  best-above b = record {
    scan = scan-next k.scan h l e _ (λ rs. ap (λ u. best rank u (map access_of rs)) (better-above rank (access w found) _ (omega (arith, k.ranked))));
    held = held-row Access w o l (scan-row k.scan h l e) (scan-whole k.scan h l e);
    ranked = d;
  }

  -- and leaves it
  pub best-below : q ≤ r → Best rank w x (i + 1) (g + 2) (o + l) r found
  best-below b = record {
    scan = scan-next k.scan h l e _ (λ rs. ap (λ u. best rank u (map access_of rs)) (better-below rank (access w found) _ (omega (arith, k.ranked))));
    held = k.held;
    ranked = k.ranked;
  }

pub best-end : (group : List ℕ) (model level : ℕ) (context : List ℕ) {w : List ℕ} {x : Extent} {i g o r : ℕ} {found : Found}
    → Best (rank_of group model level context) w x i g o r found → SoundTable Access w x → x.count ≤ i
    → Chosen Access access_of w found (chosen_access group model level context (map access_of (rows_in w x)))
best-end group model level context {w} {x} k s h =
    chosen k.held (scan-end k.scan h ∙ best-chosen group model level context (rows_in w x) s.rows_sound)
