-- A key in its three runs: as long as it is with each four bytes as one; and laid one behind the other, the runs are laid as one.
-- Assumes nothing.
use mathlib.Core.Path.{◌≡◌, sym, ap, ◌∙◌}
use mathlib.Core.List.{List, ◌++◌, append_assoc}
use Prim.Native.Nat.{ℕ, ◌+◌, ◌-◌, ◌*◌, ◌≤◌}
use native.Mathlib.Omega.{arith}
use lib.ListN.{length, take, drop, length-append, length-drop}
use lib.Seq.{length-take-le, take_all}
use Rattle.numbers.specs.BigEndian.{quad, numbers}
use Rattle.numbers.proofs.BigEndian.{length-numbers}
use Rattle.numbers.specs.Laid.{laid}
use Rattle.numbers.proofs.Laid.{laid-laid}
use Rattle.instance_encode.specs.Runs.{runs}

module _ (from quads : ℕ) (key : List ℕ) (room : from + 4 * quads ≤ length key) where
  -- three parts fewer than bytes for each number of four bytes
  pub runs-length : length (runs from quads key) + 3 * quads ≡ length key
  runs-length =
      let m = numbers quad quads (drop from key) in
      omega (
        arith,
        length-append (take from key) (m ++ drop (from + 4 * quads) key),
        length-append m (drop (from + 4 * quads) key),
        length-take-le from key (omega arith),
        length-numbers quad quads (drop from key),
        length-drop (from + 4 * quads) key,
      )

  -- laid one behind the other they are laid as one
  pub runs-laid : (at : ℕ) (w : List ℕ) → at + length key ≤ length w + 3 * quads
      → laid (at + from + quads) (take (length key - (from + 4 * quads)) (drop (from + 4 * quads) key))
      (laid (at + from) (numbers quad quads (drop from key)) (laid at (take from key) w))
      ≡ laid at (runs from quads key) w
  runs-laid at w h =
      let p = take from key in
      let q = numbers quad quads (drop from key) in
      let e = from + 4 * quads in
      let lp : length p ≡ from = length-take-le from key (omega arith) in
      let lq : length q ≡ quads = length-numbers quad quads (drop from key) in
      let r : take (length key - e) (drop e key) ≡ drop e key = take_all (length key - e) (drop e key) (omega (arith, length-drop e key)) in
      let two : laid (at + from) q (laid at p w) ≡ laid at (p ++ q) w =
      ap (λ n. laid (at + n) q (laid at p w)) (sym lp) ∙ laid-laid at p q w (omega arith) in
      let n : at + from + quads ≡ at + length (p ++ q) = omega (arith, length-append p q) in
      ap (λ u. laid (at + from + quads) u (laid (at + from) q (laid at p w))) r
      ∙ ap (laid (at + from + quads) (drop e key)) two
      ∙ ap (λ m. laid m (drop e key) (laid at (p ++ q) w)) n
      ∙ laid-laid at (p ++ q) (drop e key) w (omega (arith, length-append p q))
      ∙ ap (λ u. laid at u w) (append_assoc p q (drop e key))
