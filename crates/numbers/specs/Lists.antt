-- Lists of anything, by tests that compute: the rows that pass, the first, the last, those that rank highest. Assumes nothing.
use Rattle.std.specs.Prelude.{◌≡◌, ◌⊎◌, Bool, true, false, cond, ◌&&◌, ◌||◌, List, [], ◌∷◌, ℕ, max, eqb}
use Rattle.std.proofs.Math.Option.{Option, none, some}

module _ {A : Type 0} where
  -- those that pass the test, in their order
  abbrev pub keep : (A → Bool) → List A → List A
  keep p [] = []
  keep p (x ∷ xs) = cond (p x) (x ∷ keep p xs) (keep p xs)

  -- all of them pass; some of them pass
  abbrev pub every : (A → Bool) → List A → Bool
  every p [] = true
  every p (x ∷ xs) = p x && every p xs

  abbrev pub any : (A → Bool) → List A → Bool
  any p [] = false
  any p (x ∷ xs) = p x || any p xs

  abbrev pub first : List A → Option A
  first [] = none
  first (x ∷ xs) = some x

  -- the first that passes
  abbrev pub find : (A → Bool) → List A → Option A
  find p [] = none
  find p (x ∷ xs) = cond (p x) (some x) (find p xs)

  -- the greatest number that f gives any of them, 0 where there is none
  abbrev pub greatest : (A → ℕ) → List A → ℕ
  greatest f [] = 0
  greatest f (x ∷ xs) = max (f x) (greatest f xs)

  -- those to which f gives the greatest number
  abbrev pub top : (A → ℕ) → List A → List A
  top f xs = keep (λ x. eqb (f x) (greatest f xs)) xs

  -- what holds of a thing, if there is one
  abbrev pub OnSome : (A → Type 0) → Option A → Type 0
  OnSome P none = Unit {0}
  OnSome P (some x) = P x

  abbrev pub is_none : Option A → Bool
  is_none none = true
  is_none (some x) = false

  -- x is one of them
  abbrev pub Among : A → List A → Type 0
  Among x [] = ⊥
  Among x (y ∷ ys) = (x ≡ y) ⊎ Among x ys

  -- none of them passes the test
  abbrev pub NoneOf : (A → Bool) → List A → Type 0
  NoneOf p xs = (x : A) → Among x xs → p x ≡ false
