-- A list that ascends by an index is told by what stands at each index.
-- Two such lists with the same element at each index begin with the same element: were one first index before the other, it would be before all
-- of the other list, and nothing would stand there. At that index nothing stands in either rest, and at every other index the rests have what the
-- lists have. Assumes nothing.
use mathlib.Core.Path.{◌≡◌, refl, sym, ap, ap₂, ◌∙◌}
use mathlib.Core.Bool.{true, false}
use mathlib.Core.List.{List, [], ◌∷◌}
use mathlib.Core.Option.{Option, none, some}
use Prim.Native.Nat.{ℕ}
use Rattle.numbers.specs.Lists.{find}
use Rattle.numbers.specs.Order.{same, before}
use Rattle.numbers.proofs.Bools.{split}
use Rattle.numbers.proofs.Orders.{same_true, same_refl, before-not-same, before-total}
use Rattle.numbers.proofs.Greatest.{Under, Ascends, under-trans}

module _ {A : Type 0} (index : A → List ℕ) where
  -- the element at an index
  abbrev pub at : List ℕ → List A → Option A
  at i xs = find (λ x. same i (index x)) xs

  pub none-under : (i : List ℕ) (xs : List A) → Under index i xs → at i xs ≡ none
  none-under i [] u = refl
  none-under i (x ∷ xs) u = rw (before-not-same i (index x) u.0) (none-under i xs u.1)

  at_first : (x : A) (xs : List A) → at (index x) (x ∷ xs) ≡ some x
  at_first x xs = rw (same_refl (index x))

  -- nothing stands before the first
  at_before : (i : List ℕ) (y : A) (ys : List A) → before i (index y) ≡ true → Under index (index y) ys → at i (y ∷ ys) ≡ none
  at_before i y ys l u = none-under i (y ∷ ys) (l, under-trans index i (index y) ys l u)

  pub ascends_same : (xs ys : List A) → Ascends index xs → Ascends index ys → ((z : A) → at (index z) xs ≡ at (index z) ys) → xs ≡ ys
  ascends_same [] [] a b h = refl
  ascends_same [] (y ∷ ys) a b h = let e : none ≡ some y = h y ∙ at_first y ys in cc
  ascends_same (x ∷ xs) [] a b h = let e : some x ≡ none = sym (at_first x xs) ∙ h x in cc
  ascends_same (x ∷ xs) (y ∷ ys) a b h =
      split (before (index x) (index y))
      (λ l. let e : some x ≡ none = sym (at_first x xs) ∙ h x ∙ at_before (index x) y ys l b.0 in cc)
      (λ l. split (same (index x) (index y)) (λ s. equal (ascends_same xs ys a.1 b.1) (same_true (index x) (index y) s))
      (λ s. let e : some y ≡ none = sym (at_first y ys) ∙ sym (h y) ∙ at_before (index y) x xs (before-total (index x) (index y) s l) a.0 in cc))
    where
      rest : index x ≡ index y → (z : A) → at (index z) xs ≡ at (index z) ys
      rest q z =
          split (same (index z) (index x))
          (λ s.
          let k : index z ≡ index x = same_true (index z) (index x) s in
          let u : at (index z) xs ≡ none = rw k (none-under (index x) xs a.0) in
          let v : at (index z) ys ≡ none = rw (k ∙ q) (none-under (index y) ys b.0) in
          u ∙ sym v)
          (λ s. let m : same (index z) (index y) ≡ false = rw (← q) s in rw (s, m) at (h z))

      equal : (((z : A) → at (index z) xs ≡ at (index z) ys) → xs ≡ ys) → index x ≡ index y → x ∷ xs ≡ y ∷ ys
      equal rests q =
          let e : some x ≡ some y = sym (at_first x xs) ∙ h x ∙ ap (λ i. at i (y ∷ ys)) q ∙ at_first y ys in
          let k : x ≡ y = cc in
          ap₂ (λ u us. u ∷ us) k (rests (rest q))
