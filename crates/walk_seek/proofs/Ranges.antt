-- Rows that ascend, beside parts: with one that is above them all later ones are, and with one that is not no earlier one is. So those that are above are
-- the last rows, and the last rows of a sound table are sound. Assumes nothing.
use mathlib.Core.Path.{◌≡◌, refl, sym, ap, subst, ◌∙◌}
use mathlib.Core.Bool.{Bool, true, false}
use mathlib.Core.List.{List, [], ◌∷◌}
use mathlib.Core.Option.{none}
use Prim.Native.Nat.{ℕ, zero, suc}
use lib.ListN.{drop}
use Rattle.numbers.specs.Lists.{keep, every}
use Rattle.numbers.specs.Order.{before}
use Rattle.numbers.proofs.Bools.{clash, is_false, and_left, and_right, and_both}
use Rattle.numbers.proofs.Greatest.{Ascends, under-trans, under-every, ascends-drop}
use Rattle.rows.specs.declared.Table.{Table}
use Rattle.rows.specs.Rows.{index_of}
use Rattle.image_judge.specs.Faults.{table_fault}
use Rattle.image_judge.proofs.Sound.{fault-nil, fault-rest, whole-first, before-first, sound-rest}

module _ {A : Type 0} (index : A → List ℕ) (parts : List ℕ) where
  abbrev above : A → Bool
  above x = before parts (index x)

  every-from : (x : A) (xs : List A) → Ascends index (x ∷ xs) → above x ≡ true → every above (x ∷ xs) ≡ true
  every-from x xs a e = and_both e (under-every index parts xs (under-trans index parts (index x) xs e a.0))

  every_drop : (m : ℕ) (xs : List A) → every above xs ≡ true → every above (drop m xs) ≡ true
  every_drop zero xs a = a
  every_drop (suc m) [] a = a
  every_drop (suc m) (x ∷ xs) a = every_drop m xs (and_right (above x) _ a)

  module _ {r : A} {rs : List A} where
    -- the row at place m is above: those from it on are
    pub above_from : (m : ℕ) (xs : List A) → Ascends index xs → drop m xs ≡ r ∷ rs → above r ≡ true → every above (drop m xs) ≡ true
    above_from m xs a e h = ap (every above) e ∙ every-from r rs (subst (Ascends index) e (ascends-drop index m xs a)) h

    -- it is not: only those behind it may be
    pub above-behind : (m : ℕ) (xs : List A) → Ascends index xs → drop m xs ≡ r ∷ rs → above r ≡ false → keep above xs ≡ keep above rs
    above-behind zero xs a e h = ap (keep above) e ∙ rw h
    above-behind (suc m) [] a e h = cc
    above-behind (suc m) (x ∷ xs) a e h =
        let n : above x ≡ false = is_false (above x)
        (λ y. clash (and_left (above r) _ (sym (ap (every above) e) ∙ every_drop (suc m) (x ∷ xs) (every-from x xs a y))) h) in
        rw n (above-behind m xs a.1 e h)

-- ---- the last rows of sound ones

before-nil : (a b : List ℕ) → before a b ≡ true → before [] b ≡ true
unfolding before
before-nil [] b e = e
before-nil (x ∷ a) [] e = e
before-nil (x ∷ a) (y ∷ b) e = refl

pub sound-drop : (t : Table) (m : ℕ) (prev : List ℕ) (rs : List (List ℕ)) → table_fault t prev rs ≡ none → table_fault t [] (drop m rs) ≡ none
sound-drop t zero prev [] h = fault-nil t []
sound-drop t zero prev (r ∷ rs) h =
    fault-rest t [] r rs (whole-first t prev r rs h) (before-nil prev (index_of t r) (before-first t prev r rs h)) ∙ sound-rest t prev r rs h
sound-drop t (suc m) prev [] h = fault-nil t []
sound-drop t (suc m) prev (r ∷ rs) h = sound-drop t m (index_of t r) rs (sound-rest t prev r rs h)
