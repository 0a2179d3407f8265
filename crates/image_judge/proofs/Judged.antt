-- A walk that judges a table's rows: those that are passed have no fault, and the key of the last of them lies from a to e, so that
-- the table's fault is that of the rows that are left behind that row's index (`Judged`). Each answer about the next row settles it:
-- a fault of its own, a key that is not above the last one, or else one row more is passed. Assumes nothing.
use mathlib.Core.Path.{◌≡◌, refl, sym, ap, ◌∙◌}
use mathlib.Core.Bool.{true, false}
use mathlib.Core.List.{List, [], ◌∷◌}
use mathlib.Core.Option.{none}
use Prim.Native.Nat.{ℕ, ◌+◌, ◌≤◌, ◌<◌}
use native.Mathlib.Omega.{arith}
use lib.ListN.{take, drop, length-take}
use lib.Seq.{take-take}
use Rattle.std.specs.Prelude.{Ok}
use Rattle.std.specs.Prelude.{Err}
use Rattle.answers.specs.declared.Fault.{Fault}
use Rattle.answers.specs.declared.Fault.TheVariants.{NotAscending}
use Rattle.numbers.specs.Order.{before}
use Rattle.rows.specs.declared.Table.{Table}
use Rattle.rows.specs.Fields.{faults, span}
use Rattle.rows.specs.Rows.{key_fields, row_fields, index_of}
use Rattle.rows.specs.Steps.{reached, row_step}
use Rattle.rows.specs.Types.{Step}
use Rattle.numbers.specs.BigEndian.{Octets}
use Rattle.numbers.proofs.BigEndian.{octets-drop, octets-take}
use Rattle.image_layout.specs.declared.Extent.{Extent}
use Rattle.image_layout.specs.Layout.{pair, rows_in, end_of}
use Rattle.image_judge.specs.Faults.{table_fault}
use Rattle.image_layout.proofs.Walks.{piece, piece-nil, piece-add, rest, Walk, rest-next, rest_end, walk_end}
use Rattle.image_judge.proofs.Keys.{Stands, stands-nil, stands-row, key_room, key-above-nil}
use Rattle.image_judge.proofs.Sound.{reached-at, reached-bad, fault-nil, fault-row, fault-order, fault-rest}

pub record Judged (t : Table) (w : List ℕ) (x : Extent) (i o a e : ℕ) : Type 0 where
  pub prev : List ℕ
  pub stands : Stands t (piece w a e) prev
  pub left : table_fault t [] (rows_in w x) ≡ table_fault t prev (rest w x i o)

pub judged-start : (t : Table) (w : List ℕ) (x : Extent) (a : ℕ) → Judged t w x 0 x.rows a a
judged-start t w x a = record { prev = []; stands = rw (piece-nil w a) (stands-nil t); left = refl }

-- the next row, of length l, judged with the answer s
pub record Turn (t : Table) (w : List ℕ) (x : Extent) (i g o a e l : ℕ) (s : Step) : Type 0 where
  pub bytes : Octets w
  pub walk : Walk w x i g o
  pub judged : Judged t w x i o a e
  pub more : i < x.count
  pub length_is : l ≡ pair (drop g w)
  pub answer_is : s ≡ row_step t (piece w o (o + l))

pub turn : {t : Table} {w : List ℕ} {x : Extent} {i g o a e l : ℕ} {s : Step} → Octets w → Walk w x i g o → Judged t w x i o a e → i < x.count
    → l ≡ pair (drop g w) → s ≡ row_step t (piece w o (o + l)) → Turn t w x i g o a e l s
turn b k j m p q = record { bytes = b; walk = k; judged = j; more = m; length_is = p; answer_is = q }

module _ {t : Table} {w : List ℕ} {x : Extent} {i g o a e l : ℕ} {s : Step} (n : Turn t w x i g o a e l s) where
  abbrev row : List ℕ
  row = take l (drop o w)

  abbrev prev : List ℕ
  prev = n.judged.prev

  answer : reached (faults (row_fields t) row) (span (key_fields t) row) ≡ s
  answer = sym (n.answer_is ∙ ap (row_step t) (piece-add w o l))

  goes : table_fault t [] (rows_in w x) ≡ table_fault t prev (row ∷ rest w x (i + 1) (o + l))
  goes = n.judged.left ∙ ap (table_fault t prev) (rest-next n.walk l n.more n.length_is)

  pub judged-bad : {f : Fault} → s ≡ Err f → s ≡ reached (table_fault t [] (rows_in w x)) (end_of w x)
  judged-bad {f} p = p ∙ sym (rw (goes ∙ fault-row t prev row _ f (reached-bad _ _ f (answer ∙ p))))

  -- it has no fault, and its key is z bytes long
  module _ {z : ℕ} (p : s ≡ Ok z) where
    passed : (faults (row_fields t) row ≡ none) × (span (key_fields t) row ≡ z)
    passed = reached-at _ _ z (answer ∙ p)

    row-bytes : Octets row
    row-bytes = octets-take l (drop o w) (octets-drop o w n.bytes)

    pub key-within : z ≤ l
    key-within = omega (arith, key_room t row passed.0, passed.1, length-take l (drop o w))

    key : piece w o (o + z) ≡ take (span (key_fields t) row) row
    key = piece-add w o z ∙ sym (ap (λ m. take m row) passed.1 ∙ take-take z l (drop o w) key-within)

    compared : before (piece w a e) (piece w o (o + z)) ≡ before prev (index_of t row)
    compared = rw key (n.judged.stands row row-bytes passed.0)

    pub judged-low : before (piece w a e) (piece w o (o + z)) ≡ false → Err NotAscending ≡ reached (table_fault t [] (rows_in w x)) (end_of w x)
    judged-low q = sym (rw (goes ∙ fault-order t prev row _ passed.0 (sym compared ∙ q)))

    -- the first row stands behind none
    pub judged-first : a ≡ e → before (piece w a e) (piece w o (o + z)) ≡ true
    judged-first q = rw (← q, piece-nil w a, key) (key-above-nil t row passed.0)

    pub judged-next : before (piece w a e) (piece w o (o + z)) ≡ true → Judged t w x (i + 1) (o + l) o (o + z)
    judged-next q = record {
      prev = index_of t row;
      stands = rw key (stands-row t row row-bytes passed.0);
      left = goes ∙ fault-rest t prev row _ passed.0 (sym compared ∙ q);
    }

-- no row is left
pub judged-end : {t : Table} {w : List ℕ} {x : Extent} {i g o a e : ℕ} → Walk w x i g o → Judged t w x i o a e → x.count ≤ i
    → Ok o ≡ reached (table_fault t [] (rows_in w x)) (end_of w x)
judged-end {t} k j h =
    sym (rw (j.left ∙ ap (table_fault t j.prev) (rest_end k h) ∙ fault-nil t j.prev, walk_end k h))
