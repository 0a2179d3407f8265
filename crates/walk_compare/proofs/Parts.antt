-- The parts of an index in its three runs, one by one: each lies in one of the runs, and its bytes at a place of the key that is known. Assumes nothing.
use mathlib.Core.Path.{◌≡◌, ap, ◌∙◌}
use mathlib.Core.List.{List, ◌++◌}
use Prim.Native.Nat.{ℕ, ◌+◌, ◌-◌, ◌*◌, ◌≤◌, ◌<◌}
use native.Mathlib.Omega.{arith}
use lib.ListN.{length, take, drop, get_or, get_or-append}
use lib.Seq.{length-take-le, get_or-take, get_or-append-add, get_or-drop, drop-drop}
use Rattle.numbers.specs.BigEndian.{quad, number, numbers}
use Rattle.numbers.proofs.BigEndian.{length-numbers, get_or-numbers}
use Rattle.instance_encode.specs.Runs.{runs}

-- an element behind the seam of two lists
get_or-behind : (a b : List ℕ) (i n : ℕ) → i ≡ length a + n → get_or (a ++ b) i 0 ≡ get_or b n 0
get_or-behind a b i n e = rw e (get_or-append-add a b n 0)

module _ (from quads : ℕ) (key : List ℕ) (room : from + 4 * quads ≤ length key) (i : ℕ) where
  abbrev middle : List ℕ
  middle = numbers quad quads (drop from key)

  front : length (take from key) ≡ from
  front = length-take-le from key (omega arith)

  pub first_run : i < from → get_or (runs from quads key) i 0 ≡ get_or key i 0
  first_run h = get_or-append (take from key) _ 0 i (omega (arith, front)) ∙ get_or-take from key i 0 h

  -- behind the first run
  behind : from ≤ i → get_or (runs from quads key) i 0 ≡ get_or (middle ++ drop (from + 4 * quads) key) (i - from) 0
  behind h = get_or-behind (take from key) (middle ++ drop (from + 4 * quads) key) i (i - from) (omega (arith, front))

  pub second_run : from ≤ i → i < from + quads → get_or (runs from quads key) i 0 ≡ number quad (drop (from + 4 * (i - from)) key)
  second_run h k =
      let l : i - from < quads = omega arith in
      let e : from + (i - from) * 4 ≡ from + 4 * (i - from) = omega arith in
      behind h
      ∙ get_or-append middle (drop (from + 4 * quads) key) 0 (i - from) (omega (arith, length-numbers quad quads (drop from key)))
      ∙ get_or-numbers quad quads (i - from) (drop from key) l
      ∙ ap (number quad) (drop-drop ((i - from) * 4) from key ∙ ap (λ n. drop n key) e)

  pub third-run : from + quads ≤ i → get_or (runs from quads key) i 0 ≡ get_or key (i + 3 * quads) 0
  third-run h =
      let e : from + 4 * quads + (i - from - quads) ≡ i + 3 * quads = omega arith in
      behind (omega arith)
      ∙ get_or-behind middle (drop (from + 4 * quads) key) (i - from) (i - from - quads) (omega (arith, length-numbers quad quads (drop from key)))
      ∙ get_or-drop (from + 4 * quads) key (i - from - quads) 0
      ∙ ap (λ n. get_or key n 0) e
