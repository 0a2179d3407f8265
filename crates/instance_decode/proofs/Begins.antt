-- Whether a list begins another, tested part by part: it is no longer, and each of its parts is the other's at its place. Assumes nothing.
use mathlib.Core.Path.{◌≡◌, refl, ap}
use mathlib.Core.Bool.{false, ◌&&◌}
use mathlib.Core.List.{List, [], ◌∷◌}
use Prim.Native.Nat.{ℕ, ◌≤◌, ◌<◌}
use native.Mathlib.Omega.{arith}
use lib.ListN.{length, take, length-take}
use lib.Dec.{eqb}
use Rattle.std.specs.List.{list_all, zip}
use Rattle.numbers.specs.Order.{begins}
use Rattle.numbers.proofs.Bools.{is_false}
use Rattle.numbers.proofs.Orders.{begins-true}

pub begins-each : (p c : List ℕ) → length p ≤ length c → list_all (λ (q : ℕ × ℕ). eqb q.0 q.1) (zip p c) ≡ begins p c
unfolding begins
begins-each [] c h = refl
begins-each (x ∷ p) [] h = absurd (omega arith)
begins-each (x ∷ p) (y ∷ c) h = ap (λ b. eqb x y && b) (begins-each p c (omega arith))

pub begins-short : (p c : List ℕ) → length c < length p → begins p c ≡ false
begins-short p c h =
    is_false (begins p c) (λ e. let l : length (take (length p) c) ≡ length p = ap length (begins-true p c e) in
    omega (arith, length-take (length p) c))
