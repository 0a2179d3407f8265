-- Which elements `keep`, `find`, `first` and `top` leave: those of the list that pass, and of them those that none outranks. Assumes nothing.
use mathlib.Core.Path.{◌≡◌, refl, sym, ap, ◌∙◌}
use mathlib.Core.Logic.{inl, inr, ⊎_elim}
use mathlib.Core.Bool.{Bool, true, false}
use mathlib.Core.List.{List, [], ◌∷◌}
use mathlib.Core.Option.{none, some}
use Prim.Native.Nat.{ℕ, ◌≤◌}
use native.Mathlib.Omega.{arith}
use lib.Dec.{eqb}
use borrow.Author.Tests.{eqb-true, eq-eqb, le-ltb}
use Rattle.numbers.specs.Lists.{keep, every, any, first, find, greatest, top, is_none, Among, NoneOf}
use Rattle.numbers.specs.Order.{before}
use Rattle.numbers.proofs.Bools.{split, clash, is_false, and_left, and_right, or-neither}
use Rattle.numbers.proofs.Keeps.{find_first}
use Rattle.numbers.proofs.Tops.{any-top}

module _ {A : Type 0} where
  -- there is none
  abbrev pub Empty : List A → Type 0
  Empty xs = (x : A) → Among x xs → ⊥

  pub every-among : (p : A → Bool) (xs : List A) → every p xs ≡ true → (x : A) → Among x xs → p x ≡ true
  every-among p [] a x i = absurd i
  every-among p (y ∷ ys) a x (inl e) = rw e (and_left (p y) _ a)
  every-among p (y ∷ ys) a x (inr i) = every-among p ys (and_right (p y) _ a) x i

  any-empty : (p : A → Bool) (xs : List A) → any p xs ≡ true → Empty xs → ⊥
  any-empty p [] a n = clash a refl
  any-empty p (y ∷ ys) a n = n y (inl refl)

  -- keep
  pub kept-among : (p : A → Bool) (xs : List A) (x : A) → Among x (keep p xs) → Among x xs
  kept-among p [] x i = absurd i
  kept-among p (y ∷ ys) x i =
      split (p y)
      (λ e. let j : Among x (y ∷ keep p ys) = rw e at i in ⊎_elim (λ q. inl q) (λ k. inr (kept-among p ys x k)) j)
      (λ e. inr (kept-among p ys x (rw e at i)))

  pub kept-passes : (p : A → Bool) (xs : List A) (x : A) → Among x (keep p xs) → p x ≡ true
  kept-passes p [] x i = absurd i
  kept-passes p (y ∷ ys) x i =
      split (p y)
      (λ e. let j : Among x (y ∷ keep p ys) = rw e at i in ⊎_elim (λ q. rw q e) (λ k. kept-passes p ys x k) j)
      (λ e. kept-passes p ys x (rw e at i))

  pub keep-among : (p : A → Bool) (xs : List A) (x : A) → Among x xs → p x ≡ true → Among x (keep p xs)
  keep-among p [] x i h = absurd i
  keep-among p (y ∷ ys) x (inl q) h = let e : p y ≡ true = rw q at h in rw e (inl q)
  keep-among p (y ∷ ys) x (inr i) h = split (p y) (λ e. rw e (inr (keep-among p ys x i h))) (λ e. rw e (keep-among p ys x i h))

  -- first and find
  pub first-among : (xs : List A) {x : A} → first xs ≡ some x → Among x xs
  first-among [] e = clash refl (ap is_none e)
  first-among (y ∷ ys) {x} e = let q : y ≡ x = cc in inl (sym q)

  pub first-none : (xs : List A) → first xs ≡ none → Empty xs
  first-none [] e x i = absurd i
  first-none (y ∷ ys) e x i = clash (ap is_none e) refl

  module _ (p : A → Bool) (xs : List A) where
    pub find-among : {x : A} → find p xs ≡ some x → Among x xs
    find-among {x} e = kept-among p xs x (first-among (keep p xs) (sym (find_first p xs) ∙ e))

    pub find-passes : {x : A} → find p xs ≡ some x → p x ≡ true
    find-passes {x} e = kept-passes p xs x (first-among (keep p xs) (sym (find_first p xs) ∙ e))

    pub keep-none : Empty (keep p xs) → NoneOf p xs
    keep-none n x i = is_false (p x) (λ e. n x (keep-among p xs x i e))

    pub find_none : find p xs ≡ none → NoneOf p xs
    find_none e = keep-none (first-none (keep p xs) (sym (find_first p xs) ∙ e))

-- top
module _ {A : Type 0} (f : A → ℕ) where
  greatest-among : (xs : List A) (x : A) → Among x xs → f x ≤ greatest f xs
  greatest-among [] x i = absurd i
  greatest-among (y ∷ ys) x (inl q) = rw q (omega arith)
  greatest-among (y ∷ ys) x (inr i) = let h : f x ≤ greatest f ys = greatest-among ys x i in omega arith

  pub top-among : (xs : List A) (x : A) → Among x (top f xs) → Among x xs
  top-among xs x i = kept-among _ xs x i

  pub top-empty : (xs : List A) → Empty (top f xs) → Empty xs
  top-empty [] n x i = absurd i
  top-empty (y ∷ ys) n x i = any-empty (λ z. true) (top f (y ∷ ys)) (any-top f y ys) n

  -- b is not ahead of a by f, and by f and then what decides among the highest
  pub top-won : (xs : List A) (a b : A) (then-a then-b : List ℕ) → Among a (top f xs) → Among b xs → (Among b (top f xs) → before then-a then-b ≡ false)
      → before (f a ∷ then-a) (f b ∷ then-b) ≡ false
  unfolding before
  top-won xs a b then-a then-b i j h =
      let m : f a ≡ greatest f xs = eqb-true (f a) (greatest f xs) (kept-passes _ xs a i) in
      let l : f b ≤ greatest f xs = greatest-among xs b j in
      or-neither (le-ltb (f a) (f b) (omega arith))
      (split (eqb (f a) (f b))
      (λ e. rw e (h (keep-among _ xs b j (eq-eqb (f b) (greatest f xs) (sym (eqb-true (f a) (f b) e) ∙ m)))))
      (λ e. rw e))
