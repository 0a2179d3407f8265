-- Lists that ascend by an index, and their last element.
-- Each index is before those of all later elements, so the only element that is before none is the last.
-- Where the index is a rank followed by a key, the ranks never fall: the last has the greatest rank, and among those of that rank the keys ascend.
-- So the first of the highest ranked whose key is before no other's is the last of the list. Assumes nothing.
use mathlib.Core.Path.{◌≡◌, refl, sym, ap, subst, ◌∙◌}
use mathlib.Core.Bool.{Bool, true, false, not}
use mathlib.Core.List.{List, [], ◌∷◌, map}
use mathlib.Core.Option.{none, some}
use Prim.Native.Nat.{ℕ, zero, suc, ◌≤◌}
use native.Mathlib.Omega.{arith}
use lib.Dec.{eqb}
use lib.ListN.{length, drop}
use borrow.Author.Tests.{eqb-true, eq-eqb}
use Rattle.numbers.specs.Order.{before}
use Rattle.numbers.specs.Lists.{keep, every, find, greatest, top, OnSome}
use Rattle.numbers.specs.Scans.{last}
use Rattle.numbers.proofs.Bools.{split, and_left, and_right, and_both, not-is-true, cond-true, cond-false}
use Rattle.numbers.proofs.Orders.{before-irrefl, before-trans, before-asym, before-cons-eq, before-cons-le}
use Rattle.numbers.proofs.Keeps.{every-kept, find-ext-on}
use Rattle.numbers.proofs.Scans.{last-keep}

module _ {A : Type 0} (index : A → List ℕ) where
  -- k is before the index of each
  abbrev pub Under : List ℕ → List A → Type 0
  Under k [] = Unit {0}
  Under k (x ∷ xs) = (before k (index x) ≡ true) × Under k xs

  -- each index is before those of all later ones
  abbrev pub Ascends : List A → Type 0
  Ascends [] = Unit {0}
  Ascends (x ∷ xs) = Under (index x) xs × Ascends xs

  pub under-trans : (j k : List ℕ) (xs : List A) → before j k ≡ true → Under k xs → Under j xs
  under-trans j k [] h u = tt
  under-trans j k (x ∷ xs) h u = (before-trans j k (index x) h u.0, under-trans j k xs h u.1)

  pub under-every : (k : List ℕ) (xs : List A) → Under k xs → every (λ x. before k (index x)) xs ≡ true
  under-every k [] u = refl
  under-every k (x ∷ xs) u = and_both u.0 (under-every k xs u.1)

  pub every-under : (k : List ℕ) (xs : List A) → every (λ x. before k (index x)) xs ≡ true → Under k xs
  every-under k [] a = tt
  every-under k (x ∷ xs) a = (and_left _ _ a, every-under k xs (and_right (before k (index x)) _ a))

  pub under-keep : (k : List ℕ) (p : A → Bool) (xs : List A) → Under k xs → Under k (keep p xs)
  under-keep k p [] u = tt
  under-keep k p (x ∷ xs) u = split (p x) (λ e. rw e (u.0, under-keep k p xs u.1)) (λ e. rw e (under-keep k p xs u.1))

  pub ascends-keep : (p : A → Bool) (xs : List A) → Ascends xs → Ascends (keep p xs)
  ascends-keep p [] a = tt
  ascends-keep p (x ∷ xs) a =
      split (p x) (λ e. rw e (under-keep (index x) p xs a.0, ascends-keep p xs a.1)) (λ e. rw e (ascends-keep p xs a.1))

  pub ascends-drop : (n : ℕ) (xs : List A) → Ascends xs → Ascends (drop n xs)
  ascends-drop zero xs a = a
  ascends-drop (suc n) [] a = tt
  ascends-drop (suc n) (x ∷ xs) a = ascends-drop n xs a.1

  -- the test of being before none
  lone-step : (x : A) (ys : List A) (r : A) → before (index x) (index r) ≡ true
      → every (λ s. not (before (index r) (index s))) (x ∷ ys) ≡ every (λ s. not (before (index r) (index s))) ys
  lone-step x ys r h = rw (before-asym (index x) (index r) h)

  lone-not : (x y : A) (ys : List A) → before (index x) (index y) ≡ true → every (λ s. not (before (index x) (index s))) (x ∷ y ∷ ys) ≡ false
  lone-not x y ys h = rw (before-irrefl (index x), h)

  -- in an ascending list only the last is before none
  pub find-last : (xs : List A) → Ascends xs → find (λ r. every (λ s. not (before (index r) (index s))) xs) xs ≡ last xs
  find-last [] a = refl
  find-last (x ∷ []) a = cond-true (some x) none (and_both (not-is-true (before-irrefl (index x))) refl)
  find-last (x ∷ y ∷ ys) a =
      cond-false (some x) _ (lone-not x y ys a.0.0)
      ∙ find-ext-on (λ r. before (index x) (index r)) _ _ (λ r h. lone-step x (y ∷ ys) r h) (y ∷ ys) (under-every (index x) (y ∷ ys) a.0)
      ∙ find-last (y ∷ ys) a.1

module _ {A B : Type 0} (index : B → List ℕ) (f : A → B) where
  under-map : (k : List ℕ) (xs : List A) → Under (λ x. index (f x)) k xs → Under index k (map f xs)
  under-map k [] u = tt
  under-map k (x ∷ xs) u = (u.0, under-map k xs u.1)

  pub ascends-map : (xs : List A) → Ascends (λ x. index (f x)) xs → Ascends index (map f xs)
  ascends-map [] a = tt
  ascends-map (x ∷ xs) a = (under-map (index (f x)) xs a.0, ascends-map xs a.1)

  map-under : (k : List ℕ) (xs : List A) → Under index k (map f xs) → Under (λ x. index (f x)) k xs
  map-under k [] u = tt
  map-under k (x ∷ xs) u = (u.0, map-under k xs u.1)

  pub map-ascends : (xs : List A) → Ascends index (map f xs) → Ascends (λ x. index (f x)) xs
  map-ascends [] a = tt
  map-ascends (x ∷ xs) a = (map-under (index (f x)) xs a.0, map-ascends xs a.1)

-- an order that implies another, among those that pass
module _ {A : Type 0} (g : A → Bool) (i j : A → List ℕ) (h : (x y : A) → g x ≡ true → g y ≡ true → before (i x) (i y) ≡ true → before (j x) (j y) ≡ true) where
  under-imp : (x : A) (ys : List A) → g x ≡ true → every g ys ≡ true → Under i (i x) ys → Under j (j x) ys
  under-imp x [] e a u = tt
  under-imp x (y ∷ ys) e a u =
      (h x y e (and_left _ _ a) u.0, under-imp x ys e (and_right (g y) _ a) u.1)

  pub ascends-imp : (xs : List A) → every g xs ≡ true → Ascends i xs → Ascends j xs
  ascends-imp [] a b = tt
  ascends-imp (x ∷ xs) a b =
      (under-imp x xs (and_left _ _ a) (and_right (g x) _ a) b.0, ascends-imp xs (and_right (g x) _ a) b.1)

-- a rank before the key
module _ {A : Type 0} (f : A → ℕ) (key : A → List ℕ) where
  -- the last has the greatest rank
  last-greatest : (xs : List A) → Ascends (λ x. f x ∷ key x) xs → OnSome (λ y. eqb (f y) (greatest f xs) ≡ true) (last xs)
  last-greatest [] a = tt
  last-greatest (x ∷ []) a = eq-eqb (f x) (greatest f (x ∷ [])) (omega arith)
  last-greatest (x ∷ y ∷ ys) a =
      let l : f x ≤ f y = before-cons-le (f x) (f y) (key x) (key y) a.0.0 in
      let m : greatest f (y ∷ ys) ≡ greatest f (x ∷ y ∷ ys) = omega arith in
      subst (λ n. OnSome (λ z. eqb (f z) n ≡ true) (last (y ∷ ys))) m (last-greatest (y ∷ ys) a.1)

  -- at one rank the keys ascend
  same_rank : (m : ℕ) (x y : A) → eqb (f x) m ≡ true → eqb (f y) m ≡ true → before (f x ∷ key x) (f y ∷ key y) ≡ true → before (key x) (key y) ≡ true
  same_rank m x y p q e =
      let r : f x ≡ f y = eqb-true (f x) m p ∙ sym (eqb-true (f y) m q) in
      sym (before-cons-eq (f y) (key x) (key y)) ∙ ap (λ n. before (n ∷ key x) (f y ∷ key y)) (sym r) ∙ e

  pub ascends-top : (xs : List A) → Ascends (λ x. f x ∷ key x) xs → Ascends key (top f xs)
  ascends-top xs a =
      let p : A → Bool = λ x. eqb (f x) (greatest f xs) in
      ascends-imp p (λ x. f x ∷ key x) key (same_rank (greatest f xs)) (keep p xs) (every-kept p xs) (ascends-keep (λ x. f x ∷ key x) p xs a)

  pub last-top : (xs : List A) → Ascends (λ x. f x ∷ key x) xs → last (top f xs) ≡ last xs
  last-top xs a = last-keep (λ x. eqb (f x) (greatest f xs)) xs (last-greatest xs a)

  -- of the highest ranked, the first whose key is before no other's
  pub top-last : (xs : List A) → Ascends (λ x. f x ∷ key x) xs
      → find (λ r. every (λ s. not (before (key r) (key s))) (top f xs)) (top f xs) ≡ last xs
  top-last xs a = find-last key (top f xs) (ascends-top xs a) ∙ last-top xs a

-- the longest key, and of those the greatest
pub greatest-is-last : {A : Type 0} (key : A → List ℕ) (xs : List A) → Ascends (λ x. length (key x) ∷ key x) xs
    → find (λ r. every (λ s. not (before (key r) (key s))) (top (λ x. length (key x)) xs)) (top (λ x. length (key x)) xs) ≡ last xs
greatest-is-last key xs a = top-last (λ x. length (key x)) key xs a
