-- A list passed once, from the left, the best so far carried along. Assumes nothing.
use Rattle.std.specs.Prelude.{Bool, cond, List, [], ◌∷◌, ℕ, ltb}
use Rattle.std.proofs.Math.Option.{Option, none, some}

module _ {A : Type 0} where
  abbrev pub last : List A → Option A
  last [] = none
  last (x ∷ []) = some x
  last (x ∷ y ∷ ys) = last (y ∷ ys)

  -- the last that passes, or else o
  abbrev pub latest : (A → Bool) → Option A → List A → Option A
  latest p o [] = o
  latest p o (x ∷ xs) = latest p (cond (p x) (some x) o) xs

  -- x where f ranks it above what is carried; what f ranks 0 never counts
  abbrev pub better : (A → ℕ) → Option A → A → Option A
  better f none x = cond (ltb 0 (f x)) (some x) none
  better f (some y) x = cond (ltb (f y) (f x)) (some x) (some y)

  -- the first of those that f ranks highest, or else o
  abbrev pub best : (A → ℕ) → Option A → List A → Option A
  best f o [] = o
  best f o (x ∷ xs) = best f (better f o x) xs
