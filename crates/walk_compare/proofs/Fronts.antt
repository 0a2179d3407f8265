-- An identifier beside identifiers with a common front: it stands to them as what is left of it stands to what they have behind the front.
-- Part by part along the front: where a part is less, all of them are above it, as all that is anything is above nothing. Assumes nothing.
use mathlib.Core.Path.{◌≡◌, refl, sym}
use mathlib.Core.Bool.{Bool, true, false}
use mathlib.Core.List.{List, [], ◌∷◌, ◌++◌}
use mathlib.Core.Option.{Option, none, some}
use Prim.Native.Nat.{ℕ}
use Rattle.numbers.specs.Order.{before}
use Rattle.numbers.proofs.Orders.{Tri, below, equal, above, tri}
use Rattle.walk_compare.specs.Onward.{onward}

-- whether what is left, if anything is to be compared, is before a list
abbrev pub before_left : Option (List ℕ) → List ℕ → Bool
before_left none z = false
before_left (some rest) z = before rest z

pub before-front : (o p z : List ℕ) → before [] z ≡ true → before o (p ++ z) ≡ before_left (onward o p) z
unfolding before onward
before-front [] [] z h = refl
before-front [] (y ∷ p) z h = sym h
before-front (x ∷ o) [] z h = refl
before-front (x ∷ o) (y ∷ p) z h = go (before-front o p z h) (tri x y)
  where
    go : before o (p ++ z) ≡ before_left (onward o p) z → Tri x y
        → before (x ∷ o) ((y ∷ p) ++ z) ≡ before_left (onward (x ∷ o) (y ∷ p)) z
    go ih (below l e r) = rw l (sym h)
    go ih (equal l e r) = rw (l, e) ih
    go ih (above l e r) = rw (l, e)
