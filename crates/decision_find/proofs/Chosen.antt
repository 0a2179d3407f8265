-- A row found where it lies: what is carried along lies within w and is whole, and what each whole row passes every row of a sound table does.
-- A row that was chosen is at its place, or there is none.
-- Assumes nothing.
use mathlib.Core.Path.{◌≡◌, sym, ◌∙◌}
use mathlib.Core.Bool.{Bool, true}
use mathlib.Core.List.{List, [], map}
use mathlib.Core.Option
use mathlib.Core.Option.{Option, none, some}
use Prim.Native.Nat.{ℕ, ◌+◌, ◌≤◌}
use native.Mathlib.Omega.{arith}
use lib.ListN.{length}
use Rattle.std.specs.Prelude.{Some, None}
use Rattle.numbers.specs.Lists.{every, OnSome, is_none}
use Rattle.numbers.proofs.Options.{is-none}
use Rattle.numbers.proofs.Keeps.{every-imp, every_map}
use Rattle.rows.specs.declared.Table.{Table}
use Rattle.rows.specs.Fields.{faults}
use Rattle.rows.specs.Rows.{row_fields}
use Rattle.image_judge.specs.Faults.{table_fault}
use Rattle.image_layout.proofs.Walks.{piece}
use Rattle.image_judge.proofs.Sound.{every-whole}
use Rattle.decision_steps.specs.Bytes.{Whole}
use Rattle.decision_find.specs.Types.{Found}
use Rattle.decision_find.specs.Found.{bytes_at, Lies, FoundIn, Chosen}

-- ---- whole rows

-- what each whole row passes
module _ {R : Type 0} (t : Table) (of : List ℕ → R) (g : R → Bool) (h : (row : List ℕ) → Whole t row → g (of row) ≡ true) where
  pub every_of : (rows : List (List ℕ)) → table_fault t [] rows ≡ none → every g (map of rows) ≡ true
  every_of rows e =
      every_map of g rows
      ∙ every-imp (λ r. is_none (faults (row_fields t) r)) (λ r. g (of r)) rows (λ r i. h r (is-none _ i)) (every-whole t [] rows e)

-- ---- a row that is carried: it lies within w and is whole

pub record Held (t : Table) (w : List ℕ) (found : Found) : Type 0 where
  pub lies : FoundIn w found
  pub whole : OnSome (Whole t) (bytes_at w found)

pub held_none : (t : Table) (w : List ℕ) → Held t w None
held_none t w = record { lies = tt; whole = tt }

pub held-row : (t : Table) (w : List ℕ) (o l : ℕ) → o + l ≤ length w → Whole t (piece w o (o + l)) → Held t w (Some (o, (o + l)))
held-row t w o l h e = record { lies = record { starts = omega arith; ends = h }; whole = e }

pub chosen : {R : Type 0} {t : Table} {of : List ℕ → R} {w : List ℕ} {found : Found} {choice : Option R} → Held t w found
    → Option.map of (bytes_at w found) ≡ choice → Chosen t of w found choice
chosen h e = record { lies = h.lies; whole = h.whole; is = e }

-- ---- a row that was chosen

-- from a to e in w
pub record RowAt {R : Type 0} (t : Table) (of : List ℕ → R) (w : List ℕ) (a e : ℕ) (choice : Option R) : Type 0 where
  pub lies : Lies w a e
  pub whole : Whole t (piece w a e)
  pub is : choice ≡ some (of (piece w a e))

module _ {R : Type 0} {t : Table} {of : List ℕ → R} {w : List ℕ} {found : Found} {choice : Option R} (k : Chosen t of w found choice) where
  pub chosen-row : {a e : ℕ} → found ≡ Some (a, e) → Chosen t of w (Some (a, e)) choice
  chosen-row q = rw q at k

  pub row-at : {a e : ℕ} → found ≡ Some (a, e) → RowAt t of w a e choice
  row-at q = let c = chosen-row q in record { lies = c.lies; whole = c.whole; is = sym c.is }

  pub no_row : found ≡ None → choice ≡ none
  no_row q = let c : Chosen t of w None choice = rw q at k in sym c.is

  -- the same choice by another name
  pub chosen-as : {choice' : Option R} → choice ≡ choice' → Chosen t of w found choice'
  chosen-as e = record { lies = k.lies; whole = k.whole; is = k.is ∙ e }
