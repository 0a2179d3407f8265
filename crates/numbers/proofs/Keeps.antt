-- Laws of `keep`, `every`, `any`, `find`, `first` and `top` over any type.
-- Each goes along the list and by the test of its first element.
-- What holds of every element holds of each that is kept or found, and all of them commute with `map`.
-- Tests that agree wherever a third one passes (`..-on`) serve in each other's place. Assumes nothing.
use mathlib.Core.Path.{◌≡◌, refl, sym, ap, ap₂, ◌∙◌}
use mathlib.Core.Bool.{Bool, true, false, cond, not, ◌&&◌, ◌||◌}
use mathlib.Core.List.{List, [], ◌∷◌, ◌++◌, map}
use mathlib.Core.Option
use mathlib.Core.Option.{Option, none, some}
use Prim.Native.Nat.{ℕ, max}
use lib.Dec.{eqb}
use Rattle.numbers.specs.Lists.{keep, every, any, first, find, greatest, top, OnSome}
use Rattle.numbers.proofs.Bools.{split, clash, and_left, and_right, and_both, or_left, or_right, or-true, or-false-left, or-false-right, not-is-true}
use Rattle.numbers.proofs.Bools.{test-ext}

module _ {A : Type 0} where
  -- every
  pub every-all : (g : A → Bool) (xs : List A) → ((x : A) → g x ≡ true) → every g xs ≡ true
  every-all g [] h = refl
  every-all g (x ∷ xs) h = and_both (h x) (every-all g xs h)

  pub every-imp : (g h : A → Bool) (xs : List A) → ((x : A) → g x ≡ true → h x ≡ true) → every g xs ≡ true → every h xs ≡ true
  every-imp g h [] i a = refl
  every-imp g h (x ∷ xs) i a = and_both (i x (and_left (g x) _ a)) (every-imp g h xs i (and_right (g x) _ a))

  pub every-both : (g h : A → Bool) (xs : List A) → every g xs ≡ true → every h xs ≡ true → every (λ x. g x && h x) xs ≡ true
  every-both g h [] a b = refl
  every-both g h (x ∷ xs) a b =
      and_both (and_both (and_left (g x) _ a) (and_left (h x) _ b)) (every-both g h xs (and_right (g x) _ a) (and_right (h x) _ b))

  pub every_append : (g : A → Bool) (xs ys : List A) → every g (xs ++ ys) ≡ every g xs && every g ys
  every_append g [] ys = refl
  every_append g (x ∷ xs) ys = split (g x) (λ e. rw e (every_append g xs ys)) (λ e. rw e)

  pub every-keep : (g p : A → Bool) (xs : List A) → every g xs ≡ true → every g (keep p xs) ≡ true
  every-keep g p [] a = refl
  every-keep g p (x ∷ xs) a =
      let ih : every g (keep p xs) ≡ true = every-keep g p xs (and_right (g x) _ a) in
      split (p x) (λ e. rw e (and_both (and_left (g x) _ a) ih)) (λ e. rw e ih)

  pub every-kept : (p : A → Bool) (xs : List A) → every p (keep p xs) ≡ true
  every-kept p [] = refl
  every-kept p (x ∷ xs) = split (p x) (λ e. rw e (and_both e (every-kept p xs))) (λ e. rw e (every-kept p xs))

  -- what every kept one passes, every one passes or is not kept
  pub every-unkept : (g p : A → Bool) (xs : List A) → every g (keep p xs) ≡ true → every (λ x. not (p x) || g x) xs ≡ true
  every-unkept g p [] a = refl
  every-unkept g p (x ∷ xs) a =
      split (p x)
      (λ e. let b : g x && every g (keep p xs) ≡ true = rw e at a in rw e (and_both (and_left (g x) _ b) (every-unkept g p xs (and_right (g x) _ b))))
      (λ e. let b : every g (keep p xs) ≡ true = rw e at a in rw e (every-unkept g p xs b))

  pub every-top : (g : A → Bool) (f : A → ℕ) (xs : List A) → every g xs ≡ true → every g (top f xs) ≡ true
  every-top g f xs a = every-keep g (λ x. eqb (f x) (greatest f xs)) xs a

  -- tests that agree where g passes
  module _ (g p q : A → Bool) (h : (x : A) → g x ≡ true → p x ≡ q x) where
    pub keep-ext-on : (xs : List A) → every g xs ≡ true → keep p xs ≡ keep q xs
    keep-ext-on [] a = refl
    keep-ext-on (x ∷ xs) a =
        ap₂ {C = List A} (λ t r. cond t (x ∷ r) r) (h x (and_left (g x) _ a)) (keep-ext-on xs (and_right (g x) _ a))

    pub every-ext-on : (xs : List A) → every g xs ≡ true → every p xs ≡ every q xs
    every-ext-on [] a = refl
    every-ext-on (x ∷ xs) a = ap₂ (λ t r. t && r) (h x (and_left (g x) _ a)) (every-ext-on xs (and_right (g x) _ a))

    pub any-ext-on : (xs : List A) → every g xs ≡ true → any p xs ≡ any q xs
    any-ext-on [] a = refl
    any-ext-on (x ∷ xs) a = ap₂ (λ t r. t || r) (h x (and_left (g x) _ a)) (any-ext-on xs (and_right (g x) _ a))

    pub find-ext-on : (xs : List A) → every g xs ≡ true → find p xs ≡ find q xs
    find-ext-on [] a = refl
    find-ext-on (x ∷ xs) a =
        ap₂ {C = Option A} (λ t r. cond t (some x) r) (h x (and_left (g x) _ a)) (find-ext-on xs (and_right (g x) _ a))

  -- tests that agree everywhere
  module _ (p q : A → Bool) (xs : List A) (h : (x : A) → p x ≡ q x) where
    pub keep-ext : keep p xs ≡ keep q xs
    keep-ext = keep-ext-on (λ x. true) p q (λ x e. h x) xs (every-all _ xs (λ x. refl))

    pub every-ext : every p xs ≡ every q xs
    every-ext = every-ext-on (λ x. true) p q (λ x e. h x) xs (every-all _ xs (λ x. refl))

    pub any-ext : any p xs ≡ any q xs
    any-ext = any-ext-on (λ x. true) p q (λ x e. h x) xs (every-all _ xs (λ x. refl))

    pub find-ext : find p xs ≡ find q xs
    find-ext = find-ext-on (λ x. true) p q (λ x e. h x) xs (every-all _ xs (λ x. refl))

  -- ranks that agree where g passes
  module _ (g : A → Bool) (e f : A → ℕ) (h : (x : A) → g x ≡ true → e x ≡ f x) where
    pub greatest-ext-on : (xs : List A) → every g xs ≡ true → greatest e xs ≡ greatest f xs
    greatest-ext-on [] a = refl
    greatest-ext-on (x ∷ xs) a = ap₂ max (h x (and_left (g x) _ a)) (greatest-ext-on xs (and_right (g x) _ a))

    pub top-ext-on : (xs : List A) → every g xs ≡ true → top e xs ≡ top f xs
    top-ext-on xs a = keep-ext-on g _ _ (λ x i. ap₂ eqb (h x i) (greatest-ext-on xs a)) xs a

  pub top-ext : (e f : A → ℕ) (xs : List A) → ((x : A) → e x ≡ f x) → top e xs ≡ top f xs
  top-ext e f xs h = top-ext-on (λ x. true) e f (λ x i. h x) xs (every-all _ xs (λ x. refl))

  -- keep
  pub keep_all : (p : A → Bool) (xs : List A) → every p xs ≡ true → keep p xs ≡ xs
  keep_all p [] a = refl
  keep_all p (x ∷ xs) a = rw (and_left (p x) _ a) (ap {B = List A} (λ r. x ∷ r) (keep_all p xs (and_right (p x) _ a)))

  pub keep-and : (p f : A → Bool) (xs : List A) → keep f (keep p xs) ≡ keep (λ x. p x && f x) xs
  keep-and p f [] = refl
  keep-and p f (x ∷ xs) =
      split (p x) (λ e. rw e (ap {B = List A} (λ r. cond (f x) (x ∷ r) r) (keep-and p f xs))) (λ e. rw e (keep-and p f xs))

  pub keep-keep : (p f : A → Bool) (xs : List A) → ((x : A) → f x ≡ true → p x ≡ true) → keep f (keep p xs) ≡ keep f xs
  keep-keep p f xs h =
      keep-and p f xs ∙ keep-ext _ f xs (λ x. test-ext (p x && f x) (f x) (and_right (p x) (f x)) (λ e. and_both (h x e) e))

  pub keep_append : (p : A → Bool) (xs ys : List A) → keep p (xs ++ ys) ≡ keep p xs ++ keep p ys
  keep_append p [] ys = refl
  keep_append p (x ∷ xs) ys =
      split (p x) (λ e. rw e (ap {B = List A} (λ r. x ∷ r) (keep_append p xs ys))) (λ e. rw e (keep_append p xs ys))

  -- any: whether anything is kept
  abbrev has : List A → Bool
  has [] = false
  has (x ∷ xs) = true

  any-has : (p : A → Bool) (xs : List A) → any p xs ≡ has (keep p xs)
  any-has p [] = refl
  any-has p (x ∷ xs) = split (p x) (λ e. rw e) (λ e. rw e (any-has p xs))

  has-none : (xs : List A) → has xs ≡ false → xs ≡ []
  has-none [] e = refl
  has-none (x ∷ xs) e = clash refl e

  pub any-keep : (p : A → Bool) (xs : List A) → any p xs ≡ false → keep p xs ≡ []
  any-keep p xs e = has-none (keep p xs) (sym (any-has p xs) ∙ e)

  pub keep-any : (p : A → Bool) (xs : List A) → keep p xs ≡ [] → any p xs ≡ false
  keep-any p xs e = any-has p xs ∙ ap has e

  pub any-imp : (p q : A → Bool) (xs : List A) → ((x : A) → p x ≡ true → q x ≡ true) → any p xs ≡ true → any q xs ≡ true
  any-imp p q [] i a = a
  any-imp p q (x ∷ xs) i a =
      or-true (p x) (any p xs) a (λ e. or_left _ (i x e)) (λ e. or_right (q x) (any-imp p q xs i e))

  pub any-kept : (p q : A → Bool) (xs : List A) → any q (keep p xs) ≡ any (λ x. p x && q x) xs
  any-kept p q xs = any-has q (keep p xs) ∙ ap has (keep-and p q xs) ∙ sym (any-has (λ x. p x && q x) xs)

  pub any-every : (p : A → Bool) (xs : List A) → any p xs ≡ false → every (λ x. not (p x)) xs ≡ true
  any-every p [] e = refl
  any-every p (x ∷ xs) e =
      and_both (not-is-true (or-false-left (p x) _ e)) (any-every p xs (or-false-right (p x) _ e))

  pub any-find : (p : A → Bool) (xs : List A) → any p xs ≡ false → find p xs ≡ none
  any-find p [] e = refl
  any-find p (x ∷ xs) e = rw (or-false-left (p x) _ e) (any-find p xs (or-false-right (p x) _ e))

  -- first and find
  pub on-some-imp : (P Q : A → Type 0) (o : Option A) → ((y : A) → P y → Q y) → OnSome P o → OnSome Q o
  on-some-imp P Q none h a = tt
  on-some-imp P Q (some y) h a = h y a

  pub first-is : (g : A → Bool) (xs : List A) → every g xs ≡ true → OnSome (λ y. g y ≡ true) (first xs)
  first-is g [] a = tt
  first-is g (x ∷ xs) a = and_left (g x) _ a

  pub find_first : (p : A → Bool) (xs : List A) → find p xs ≡ first (keep p xs)
  find_first p [] = refl
  find_first p (x ∷ xs) = split (p x) (λ e. rw e) (λ e. rw e (find_first p xs))

  pub find-is : (p g : A → Bool) (xs : List A) → every g xs ≡ true → OnSome (λ y. (p y ≡ true) × (g y ≡ true)) (find p xs)
  find-is p g [] a = tt
  find-is p g (x ∷ xs) a =
      split (p x) (λ e. rw e (e, and_left (g x) _ a)) (λ e. rw e (find-is p g xs (and_right (g x) _ a)))

module _ {A B : Type 0} (f : A → B) where
  pub keep-map : (p : B → Bool) (xs : List A) → keep p (map f xs) ≡ map f (keep (λ x. p (f x)) xs)
  keep-map p [] = refl
  keep-map p (x ∷ xs) =
      split (p (f x)) (λ e. rw e (ap {B = List B} (λ r. f x ∷ r) (keep-map p xs))) (λ e. rw e (keep-map p xs))

  pub every_map : (p : B → Bool) (xs : List A) → every p (map f xs) ≡ every (λ x. p (f x)) xs
  every_map p [] = refl
  every_map p (x ∷ xs) = ap (λ r. p (f x) && r) (every_map p xs)

  pub any-map : (p : B → Bool) (xs : List A) → any p (map f xs) ≡ any (λ x. p (f x)) xs
  any-map p [] = refl
  any-map p (x ∷ xs) = ap (λ r. p (f x) || r) (any-map p xs)

  pub first-map : (xs : List A) → first (map f xs) ≡ Option.map f (first xs)
  first-map [] = refl
  first-map (x ∷ xs) = refl

  pub find-map : (p : B → Bool) (xs : List A) → find p (map f xs) ≡ Option.map f (find (λ x. p (f x)) xs)
  find-map p [] = refl
  find-map p (x ∷ xs) = split (p (f x)) (λ e. rw e) (λ e. rw e (find-map p xs))

  pub greatest-map : (r : B → ℕ) (xs : List A) → greatest r (map f xs) ≡ greatest (λ x. r (f x)) xs
  greatest-map r [] = refl
  greatest-map r (x ∷ xs) = ap (λ m. max (r (f x)) m) (greatest-map r xs)

  pub top-map : (r : B → ℕ) (xs : List A) → top r (map f xs) ≡ map f (top (λ x. r (f x)) xs)
  top-map r xs = rw (greatest-map r xs) (keep-map (λ y. eqb (r y) (greatest (λ x. r (f x)) xs)) xs)
