-- A table's rows exchanged at a key's place stay without fault: those before the place have lower indices than the key, what comes in has
-- the key's own, and what follows has higher ones (`fault-exchanged`). Rows without fault take no more bytes than as many of the table's
-- longest, and how many rows and bytes there are changes by those that go and those that come. Assumes nothing.
use mathlib.Core.Path.{◌≡◌, refl, ap, subst, ◌∙◌}
use mathlib.Core.Bool.{true}
use mathlib.Core.List.{List, [], ◌∷◌, ◌++◌}
use mathlib.Core.Option.{none}
use Prim.Native.Nat.{ℕ, ◌+◌, ◌*◌, ◌≤◌}
use native.Mathlib.Nat.{suc-add, suc-mul}
use native.Mathlib.Omega.{arith}
use lib.ListN.{length, take, drop, length-append, length-drop}
use lib.Seq.{length-take-le}
use Rattle.numbers.specs.Order.{same, before}
use Rattle.numbers.proofs.Bools.{split}
use Rattle.numbers.proofs.Orders.{before-trans}
use Rattle.rows.specs.declared.Table.{Table}
use Rattle.rows.specs.declared.Table.TheVariants.{Context, Mapping, Access, View}
use Rattle.rows.specs.Fields.{faults}
use Rattle.rows.specs.Rows.{key_fields, row_fields, index_of}
use Rattle.rows.proofs.Bounds.{longest_row, row-bounded}
use Rattle.image_judge.specs.Faults.{table_fault}
use Rattle.image_judge.proofs.Sound.{fault-nil, fault-rest, whole-first, before-first, sound-rest}
use Rattle.table_update.specs.Exchange.{one_if, front, rows_before, is_held, exchanged}
use Rattle.table_update.proofs.Written.{concatenated, concatenated-append}
use Rattle.table_update.proofs.Keys.{KeyOf, Stand, lower, equal, upper, stands, Whole}
use Rattle.table_update.proofs.Exchanges.{parts, one-if-most}

-- any index is above none
pub index-some : (t : Table) (v : List ℕ) → before [] (index_of t v) ≡ true
unfolding key_fields before
index-some Context v = refl
index-some Mapping v = refl
index-some Access v = refl
index-some View v = refl

-- what comes in at index i: nothing, or a whole row that has it
pub data Comes (t : Table) (i : List ℕ) : List (List ℕ) → Type 0 where
  nothing : Comes t i []
  whole : {row : List ℕ} → faults (row_fields t) row ≡ none → index_of t row ≡ i → Comes t i (row ∷ [])

module _ (t : Table) where
  -- behind a lower index
  fault-lower : (p q : List ℕ) (rs : List (List ℕ)) → before q p ≡ true → table_fault t p rs ≡ none → table_fault t q rs ≡ none
  fault-lower p q [] b h = fault-nil t q
  fault-lower p q (r ∷ rs) b h =
      fault-rest t q r rs (whole-first t p r rs h) (before-trans q p (index_of t r) b (before-first t p r rs h)) ∙ sound-rest t p r rs h

  -- what comes in, ahead of rows that may follow its index
  fault-new : {i : List ℕ} {new : List (List ℕ)} (prev : List ℕ) (rs : List (List ℕ)) → Comes t i new → before prev i ≡ true → table_fault t i rs ≡ none
      → table_fault t prev (new ++ rs) ≡ none
  fault-new {i} prev rs nothing b h = fault-lower i prev rs b h
  fault-new {i} prev rs (whole {row} f e) b h =
      fault-rest t prev row rs f (ap (before prev) e ∙ b) ∙ ap (λ j. table_fault t j rs) e ∙ h

  fault-step : {key i r : List ℕ} {new : List (List ℕ)} (prev : List ℕ) (rs : List (List ℕ)) → Stand key i r (index_of t r) → Comes t i new
      → before prev i ≡ true
      → table_fault t prev (r ∷ rs) ≡ none
      → (before (index_of t r) i ≡ true → table_fault t (index_of t r) (exchanged (rows_before key rs) (one_if (is_held key rs)) new rs) ≡ none)
      → table_fault t prev (exchanged (rows_before key (r ∷ rs)) (one_if (is_held key (r ∷ rs))) new (r ∷ rs)) ≡ none
  unfolding rows_before is_held
  fault-step {key} {i} {r} {new} prev rs (lower b l) c p h ih =
      rw (b, suc-add (rows_before key rs) (one_if (is_held key rs))) (fault-rest t prev r _ (whole-first t prev r rs h) (before-first t prev r rs h) ∙ ih l)
  fault-step prev rs (equal b s l) c p h ih = rw (b, s) (fault-new prev rs c p (subst (λ j. table_fault t j rs ≡ none) l (sound-rest t prev _ rs h)))
  fault-step {key} {i} {r} prev rs (upper b s l) c p h ih =
      rw (b, s) (fault-new prev (r ∷ rs) c p (fault-rest t i r rs (whole-first t prev r rs h) l ∙ sound-rest t prev r rs h))

  pub fault-exchanged : {key i : List ℕ} {new : List (List ℕ)} → KeyOf t key i → Comes t i new → (prev : List ℕ) (rs : List (List ℕ)) → Whole t rs
      → before prev i ≡ true
      → table_fault t prev rs ≡ none → table_fault t prev (exchanged (rows_before key rs) (one_if (is_held key rs)) new rs) ≡ none
  unfolding rows_before is_held
  fault-exchanged {key} {i} k c prev [] a b h = fault-new prev [] c b (fault-nil t i)
  fault-exchanged k c prev (r ∷ rs) a b h =
      fault-step prev rs (stands (k r a.0 a.1)) c b h (λ l. fault-exchanged k c (index_of t r) rs a.2 l (sound-rest t prev r rs h))

  -- the bytes that rows without fault take
  pub rows-bounded : (prev : List ℕ) (rs : List (List ℕ)) → table_fault t prev rs ≡ none → length (concatenated rs) ≤ length rs * longest_row t
  rows-bounded prev [] h = omega arith
  rows-bounded prev (r ∷ rs) h =
      omega (
        arith,
        rows-bounded (index_of t r) rs (sound-rest t prev r rs h),
        row-bounded t r (whole-first t prev r rs h),
        length-append r
            (concatenated rs),
        suc-mul (length rs) (longest_row t),
      )

-- the key's place lies within the rows
pub place-fits : (key : List ℕ) (rs : List (List ℕ)) → rows_before key rs + one_if (is_held key rs) ≤ length rs
unfolding rows_before is_held
place-fits key [] = omega arith
place-fits key (r ∷ rs) =
    split (before (front key r) key) (λ b. rw b (omega (arith, place-fits key rs))) (λ b. rw b (omega (arith, one-if-most (same (front key r) key))))

-- how many rows and how many bytes are exchanged
module _ (i gone : ℕ) (new rs : List (List ℕ)) where
  pub exchanged-length : i + gone ≤ length rs → length (exchanged i gone new rs) + gone ≡ length rs + length new
  exchanged-length h = simp (length-append, length-drop) (omega (arith, length-take-le i rs (omega arith)))

  pub exchanged-bytes : length (concatenated (exchanged i gone new rs)) + length (concatenated (take gone (drop i rs))) ≡ length
      (concatenated rs) + length (concatenated new)
  exchanged-bytes =
      let a : length (concatenated rs) ≡ length (concatenated (take i rs)) +
      (length (concatenated (take gone (drop i rs))) + length (concatenated (drop (i + gone) rs))) =
      ap (λ l. length (concatenated l)) (parts i gone rs) ∙ simp (concatenated-append, length-append) in
      simp (concatenated-append, length-append) (omega arith)
