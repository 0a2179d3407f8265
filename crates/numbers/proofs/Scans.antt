-- Laws of `last`, and of the two scans that carry an element along, `latest` and `best`.
-- The last that passes is the last of those kept. The best is the first of those that rank highest: an element that ranks below or beside
-- the one carried changes neither the greatest rank nor the first that has it, and one that ranks above puts out the one carried.
-- Both commute with `map`, and what they give is an element of the list or what was carried. Assumes nothing.
use mathlib.Core.Path.{◌≡◌, refl, sym, ap, ◌∙◌}
use mathlib.Core.Bool.{Bool, true, false, cond}
use mathlib.Core.List.{List, [], ◌∷◌, ◌++◌, map}
use mathlib.Core.Option
use mathlib.Core.Option.{Option, none, some}
use Prim.Native.Nat.{ℕ, ◌≤◌, ◌<◌}
use native.Mathlib.Omega.{arith}
use lib.Dec.{eqb, ltb}
use borrow.Author.Tests.{ltb-true, ltb-false, eqb-false, lt-ltb, le-ltb, eq-eqb, ne_eqb}
use Rattle.numbers.specs.Lists.{keep, every, first, greatest, top, OnSome}
use Rattle.numbers.specs.Scans.{last, latest, better, best}
use Rattle.numbers.proofs.Bools.{split, and_left, and_right, cond-true, cond-false, cond_map}
use Rattle.numbers.proofs.Keeps.{every-kept}
use Rattle.numbers.proofs.Tops.{top-at}

module _ {A : Type 0} where
  -- last
  pub last-is : (g : A → Bool) (xs : List A) → every g xs ≡ true → OnSome (λ y. g y ≡ true) (last xs)
  last-is g [] a = tt
  last-is g (x ∷ []) a = and_left (g x) true a
  last-is g (x ∷ y ∷ ys) a = last-is g (y ∷ ys) (and_right (g x) _ a)

  -- latest
  pub latest-append : (p : A → Bool) (o : Option A) (xs ys : List A) → latest p o (xs ++ ys) ≡ latest p (latest p o xs) ys
  latest-append p o [] ys = refl
  latest-append p o (x ∷ xs) ys = latest-append p (cond (p x) (some x) o) xs ys

  -- of what is carried and a list, the list's own latest counts, or else what is carried
  pub latest-some : (p : A → Bool) (o : Option A) (xs : List A) (y : A) → latest p none xs ≡ some y → latest p o xs ≡ some y
  latest-some p o [] y e = cc
  latest-some p o (x ∷ xs) y e = split (p x) (λ q. rw q (rw q at e)) (λ q. rw q (latest-some p o xs y (rw q at e)))

  -- what is carried does not go
  latest-held : (p : A → Bool) (y : A) (xs : List A) → latest p (some y) xs ≡ none → (u v : Option A) → u ≡ v
  latest-held p y [] e u v = cc
  latest-held p y (x ∷ xs) e u v = split (p x) (λ q. latest-held p x xs (rw q at e) u v) (λ q. latest-held p y xs (rw q at e) u v)

  pub latest-none : (p : A → Bool) (o : Option A) (xs : List A) → latest p none xs ≡ none → latest p o xs ≡ o
  latest-none p o [] e = refl
  latest-none p o (x ∷ xs) e = split (p x) (λ q. latest-held p x xs (rw q at e) _ _) (λ q. rw q (latest-none p o xs (rw q at e)))

  latest-keep : (p : A → Bool) (o : Option A) (xs : List A) → latest p o xs ≡ latest (λ x. true) o (keep p xs)
  latest-keep p o [] = refl
  latest-keep p o (x ∷ xs) = split (p x) (λ e. rw e (latest-keep p (some x) xs)) (λ e. rw e (latest-keep p o xs))

  latest-last : (x : A) (xs : List A) → latest (λ y. true) (some x) xs ≡ last (x ∷ xs)
  latest-last x [] = refl
  latest-last x (y ∷ ys) = latest-last y ys

  latest-all : (xs : List A) → latest (λ y. true) none xs ≡ last xs
  latest-all [] = refl
  latest-all (x ∷ xs) = latest-last x xs

  pub latest-is : (p : A → Bool) (xs : List A) → latest p none xs ≡ last (keep p xs)
  latest-is p xs = latest-keep p none xs ∙ latest-all (keep p xs)

  -- where the last passes, the others count for nothing
  latest-ends : (p : A → Bool) (o u : Option A) (x : A) (xs : List A) → OnSome (λ y. p y ≡ true) (last (x ∷ xs)) → latest p o (x ∷ xs) ≡ latest
      (λ y. true) u (x ∷ xs)
  latest-ends p o u x [] h = cond-true (some x) o h
  latest-ends p o u x (y ∷ ys) h = latest-ends p (cond (p x) (some x) o) (some x) y ys h

  pub last-keep : (p : A → Bool) (xs : List A) → OnSome (λ y. p y ≡ true) (last xs) → last (keep p xs) ≡ last xs
  last-keep p [] h = refl
  last-keep p (x ∷ xs) h = sym (latest-is p (x ∷ xs)) ∙ latest-ends p none none x xs h ∙ latest-last x xs

  module _ (p g : A → Bool) where
    pub latest-on-from : (o : Option A) (xs : List A) → OnSome (λ y. (p y ≡ true) × (g y ≡ true)) o → every g xs ≡ true → OnSome
        (λ y. (p y ≡ true) × (g y ≡ true)) (latest p o xs)
    latest-on-from o [] i a = i
    latest-on-from o (x ∷ xs) i a =
        split (p x)
        (λ e. rw e (latest-on-from (some x) xs (e, and_left (g x) _ a) (and_right (g x) _ a)))
        (λ e. rw e (latest-on-from o xs i (and_right (g x) _ a)))

    pub latest-on : (xs : List A) → every g xs ≡ true → OnSome (λ y. (p y ≡ true) × (g y ≡ true)) (latest p none xs)
    latest-on xs a = latest-on-from none xs tt a

  -- best
  first-skip : (q : A → Bool) (y x : A) (xs : List A) → (q y ≡ false → q x ≡ false) → first (keep q (y ∷ x ∷ xs)) ≡ first (keep q (y ∷ xs))
  first-skip q y x xs h = split (q y) (λ e. rw e) (λ e. rw (e, h e))

  pub best-append : (f : A → ℕ) (o : Option A) (xs ys : List A) → best f o (xs ++ ys) ≡ best f (best f o xs) ys
  best-append f o [] ys = refl
  best-append f o (x ∷ xs) ys = best-append f (better f o x) xs ys

  module _ (f : A → ℕ) where
    -- what ranks 0 changes nothing
    better-zero : (o : Option A) (x : A) → ltb 0 (f x) ≡ false → better f o x ≡ o
    better-zero none x e = rw e
    better-zero (some y) x e = let l : f x ≤ 0 = ltb-false 0 (f x) e in rw (le-ltb (f y) (f x) (omega arith))

    best-keep : (o : Option A) (xs : List A) → best f o xs ≡ best f o (keep (λ x. ltb 0 (f x)) xs)
    best-keep o [] = refl
    best-keep o (x ∷ xs) =
        split (ltb 0 (f x))
        (λ e. rw e (best-keep (better f o x) xs))
        (λ e. rw e (ap (λ u. best f u xs) (better-zero o x e) ∙ best-keep o xs))

    -- the first of the highest, where the second ranks above the first, and where it does not
    first_above : (y x : A) (xs : List A) → ltb (f y) (f x) ≡ true → first (top f (y ∷ x ∷ xs)) ≡ first (top f (x ∷ xs))
    first_above y x xs e =
        let l : f y < f x = ltb-true (f y) (f x) e in
        let m : greatest f (y ∷ x ∷ xs) ≡ greatest f (x ∷ xs) = omega arith in
        let n : eqb (f y) (greatest f (x ∷ xs)) ≡ false = ne_eqb (f y) (greatest f (x ∷ xs)) (λ q. omega arith) in
        ap first (top-at f (greatest f (x ∷ xs)) (y ∷ x ∷ xs) m ∙ cond-false _ _ n)

    first_below : (y x : A) (xs : List A) → ltb (f y) (f x) ≡ false → first (top f (y ∷ x ∷ xs)) ≡ first (top f (y ∷ xs))
    first_below y x xs e =
        let l : f x ≤ f y = ltb-false (f y) (f x) e in
        let m : greatest f (y ∷ x ∷ xs) ≡ greatest f (y ∷ xs) = omega arith in
        ap first (top-at f (greatest f (y ∷ xs)) (y ∷ x ∷ xs) m)
        ∙ first-skip (λ z. eqb (f z) (greatest f (y ∷ xs))) y x xs
        (λ i. ne_eqb (f x) (greatest f (y ∷ xs)) (λ q. omega (arith, eqb-false (f y) (greatest f (y ∷ xs)) i)))

    best-some : (y : A) (xs : List A) → best f (some y) xs ≡ first (top f (y ∷ xs))
    best-some y [] = sym (ap first (cond-true (y ∷ []) [] (eq-eqb (f y) (greatest f (y ∷ [])) (omega arith))))
    best-some y (x ∷ xs) =
        split (ltb (f y) (f x))
        (λ e. rw e (best-some x xs ∙ sym (first_above y x xs e)))
        (λ e. rw e (best-some y xs ∙ sym (first_below y x xs e)))

    best_none : (xs : List A) → every (λ x. ltb 0 (f x)) xs ≡ true → best f none xs ≡ first (top f xs)
    best_none [] a = refl
    best_none (x ∷ xs) a = rw (and_left (ltb 0 (f x)) _ a) (best-some x xs)

    pub best-is : (xs : List A) → best f none xs ≡ first (top f (keep (λ x. ltb 0 (f x)) xs))
    best-is xs = best-keep none xs ∙ best_none (keep (λ x. ltb 0 (f x)) xs) (every-kept (λ x. ltb 0 (f x)) xs)

    module _ (g : A → Bool) where
      better-on : (o : Option A) (x : A) → OnSome (λ y. (ltb 0 (f y) ≡ true) × (g y ≡ true)) o → g x ≡ true → OnSome
          (λ y. (ltb 0 (f y) ≡ true) × (g y ≡ true)) (better f o x)
      better-on none x i h = split (ltb 0 (f x)) (λ e. rw e (e, h)) (λ e. rw e tt)
      better-on (some y) x i h =
          split (ltb (f y) (f x))
          (λ e. let l : f y < f x = ltb-true (f y) (f x) e in rw e (lt-ltb 0 (f x) (omega arith), h))
          (λ e. rw e i)

      pub best-on-from : (o : Option A) (xs : List A) → OnSome (λ y. (ltb 0 (f y) ≡ true) × (g y ≡ true)) o → every g xs ≡ true → OnSome
          (λ y. (ltb 0 (f y) ≡ true) × (g y ≡ true)) (best f o xs)
      best-on-from o [] i a = i
      best-on-from o (x ∷ xs) i a = best-on-from (better f o x) xs (better-on o x i (and_left (g x) _ a)) (and_right (g x) _ a)

      pub best-on : (xs : List A) → every g xs ≡ true → OnSome (λ y. (ltb 0 (f y) ≡ true) × (g y ≡ true)) (best f none xs)
      best-on xs a = best-on-from none xs tt a

module _ {A B : Type 0} (f : A → B) where
  pub last-map : (xs : List A) → last (map f xs) ≡ Option.map f (last xs)
  last-map [] = refl
  last-map (x ∷ []) = refl
  last-map (x ∷ y ∷ ys) = last-map (y ∷ ys)

  pub latest-map : (p : B → Bool) (o : Option A) (xs : List A) → latest p (Option.map f o) (map f xs) ≡ Option.map f (latest (λ x. p (f x)) o xs)
  latest-map p o [] = refl
  latest-map p o (x ∷ xs) =
      ap (λ u. latest p u (map f xs)) (sym (cond_map (Option.map f) (p (f x)) (some x) o)) ∙ latest-map p (cond (p (f x)) (some x) o) xs

  better-map : (r : B → ℕ) (o : Option A) (x : A) → better r (Option.map f o) (f x) ≡ Option.map f (better (λ y. r (f y)) o x)
  better-map r none x = split (ltb 0 (r (f x))) (λ e. rw e) (λ e. rw e)
  better-map r (some y) x = split (ltb (r (f y)) (r (f x))) (λ e. rw e) (λ e. rw e)

  pub best-map : (r : B → ℕ) (o : Option A) (xs : List A) → best r (Option.map f o) (map f xs) ≡ Option.map f (best (λ x. r (f x)) o xs)
  best-map r o [] = refl
  best-map r o (x ∷ xs) = ap (λ u. best r u (map f xs)) (better-map r o x) ∙ best-map r (better (λ y. r (f y)) o x) xs
