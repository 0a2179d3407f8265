-- Rows of a table judged one after the other: what a row of its own adds, and what rows without fault are.
-- The definition answers by the row's own fault and then by the order, so each test that the code makes settles it (`fault-row`,
-- `fault-order`, `fault-rest`); and without a fault every test passed, for each row in turn. Assumes nothing.
use mathlib.Core.Path.{◌≡◌, refl, ap}
use mathlib.Core.Bool.{true, false, cond}
use mathlib.Core.List.{List, [], ◌∷◌}
use mathlib.Core.Option.{Option, none, some}
use Prim.Native.Nat.{ℕ}
use Rattle.std.specs.Prelude.{Ok}
use Rattle.std.specs.Prelude.{Err}
use Rattle.answers.specs.declared.Fault.{Fault}
use Rattle.answers.specs.declared.Fault.TheVariants.{NotAscending}
use Rattle.numbers.specs.Lists.{every, is_none}
use Rattle.numbers.specs.Order.{before}
use Rattle.numbers.proofs.Bools.{and_both}
use Rattle.numbers.proofs.Greatest.{Under, Ascends, under-trans}
use Rattle.rows.specs.declared.Table.{Table}
use Rattle.rows.specs.Fields.{faults, or_else}
use Rattle.rows.specs.Rows.{row_fields, index_of}
use Rattle.rows.specs.Steps.{reached}
use Rattle.rows.proofs.Sound.{cond-none}
use Rattle.image_judge.specs.Faults.{table_fault}

-- ---- answers read back

pub reached-at : (o : Option Fault) (n a : ℕ) → reached o n ≡ Ok a → (o ≡ none) × (n ≡ a)
reached-at none n a e = (refl, cc)
reached-at (some f) n a e = (cc, cc)

pub reached-bad : (o : Option Fault) (n : ℕ) (f : Fault) → reached o n ≡ Err f → o ≡ some f
reached-bad none n f e = cc
reached-bad (some g) n f e = cc

pub or_else_none : (o p : Option Fault) → or_else o p ≡ none → (o ≡ none) × (p ≡ none)
or_else_none none p e = (refl, e)
or_else_none (some f) p e = (e, cc)

-- ---- one row more

module _ (t : Table) (prev r : List ℕ) (rs : List (List ℕ)) where
  pub fault-row : (f : Fault) → faults (row_fields t) r ≡ some f → table_fault t prev (r ∷ rs) ≡ some f
  unfolding table_fault
  fault-row f e = rw e

  pub fault-order : faults (row_fields t) r ≡ none → before prev (index_of t r) ≡ false → table_fault t prev (r ∷ rs) ≡ some NotAscending
  unfolding table_fault
  fault-order e b = rw (e, b)

  pub fault-rest : faults (row_fields t) r ≡ none → before prev (index_of t r) ≡ true → table_fault t prev (r ∷ rs) ≡ table_fault t (index_of t r) rs
  unfolding table_fault
  fault-rest e b = rw (e, b)

  module _ (h : table_fault t prev (r ∷ rs) ≡ none) where
    ordered : cond (before prev (index_of t r)) (table_fault t (index_of t r) rs) (some NotAscending) ≡ none
    unfolding table_fault
    ordered = (or_else_none (faults (row_fields t) r) _ h).1

    pub whole-first : faults (row_fields t) r ≡ none
    unfolding table_fault
    whole-first = (or_else_none (faults (row_fields t) r) _ h).0

    pub before-first : before prev (index_of t r) ≡ true
    before-first = (cond-none (before prev (index_of t r)) _ _ ordered).0

    pub sound-rest : table_fault t (index_of t r) rs ≡ none
    sound-rest = (cond-none (before prev (index_of t r)) _ _ ordered).1

-- ---- all rows

-- none is left
pub fault-nil : (t : Table) (prev : List ℕ) → table_fault t prev [] ≡ none
unfolding table_fault
fault-nil t prev = refl

pub every-whole : (t : Table) (prev : List ℕ) (rs : List (List ℕ)) → table_fault t prev rs ≡ none → every (λ r. is_none (faults (row_fields t) r)) rs ≡ true
every-whole t prev [] h = refl
every-whole t prev (r ∷ rs) h =
    and_both (ap is_none (whole-first t prev r rs h)) (every-whole t (index_of t r) rs (sound-rest t prev r rs h))

-- each index is above those of all earlier rows
pub under-rows : (t : Table) (prev : List ℕ) (rs : List (List ℕ)) → table_fault t prev rs ≡ none → Under (index_of t) prev rs
under-rows t prev [] h = tt
under-rows t prev (r ∷ rs) h =
    let b = before-first t prev r rs h in
    (b, under-trans (index_of t) prev (index_of t r) rs b (under-rows t (index_of t r) rs (sound-rest t prev r rs h)))

pub ascends-rows : (t : Table) (prev : List ℕ) (rs : List (List ℕ)) → table_fault t prev rs ≡ none → Ascends (index_of t) rs
ascends-rows t prev [] h = tt
ascends-rows t prev (r ∷ rs) h =
    let s = sound-rest t prev r rs h in
    (under-rows t (index_of t r) rs s, ascends-rows t (index_of t r) rs s)
