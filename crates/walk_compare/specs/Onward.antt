-- An identifier beside a common front of identifiers: what of it is left to compare with what they have behind the front. Assumes nothing.
use Rattle.std.specs.Prelude.{◌≡◌, cond, List, [], ◌∷◌, ℕ, ◌≤◌, eqb, ltb, length, drop}
use Rattle.std.proofs.Math.Option.{Option, none, some}
use Rattle.std.specs.Prelude.{Some, None}
use Rattle.walk_compare.specs.Types.{Onward}

-- nothing where all of them are above it; none where it is above all of them
unfoldable pub onward : List ℕ → List ℕ → Option (List ℕ)
onward [] front = some []
onward (x ∷ xs) [] = some (x ∷ xs)
onward (x ∷ xs) (y ∷ ys) = cond (ltb x y) (some []) (cond (eqb x y) (onward xs ys) none)

-- the same by the place from which parts are left
abbrev pub left_of : List ℕ → Onward → Option (List ℕ)
left_of identifier (Some k) = some (drop k identifier)
left_of identifier None = none

abbrev pub PlaceIn : List ℕ → Onward → Type 0
PlaceIn identifier (Some k) = k ≤ length identifier
PlaceIn identifier None = Unit {0}

pub record GoesOn (identifier front : List ℕ) (r : Onward) : Type 0 where
  pub place : PlaceIn identifier r
  pub is : left_of identifier r ≡ onward identifier front
