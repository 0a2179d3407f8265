-- What a list laid into a buffer leaves in front of it, and what is then found at its place. Assumes nothing.
use mathlib.Core.Path.{◌≡◌, sym, ap, ◌∙◌}
use mathlib.Core.List.{List, ◌++◌}
use Prim.Native.Nat.{ℕ, ◌+◌, ◌-◌, ◌≤◌}
use native.Mathlib.Omega.{arith}
use lib.ListN.{length, take, drop}
use lib.Seq.{length-take-le, take_at, drop_at}
use Rattle.numbers.specs.Laid.{laid}
use Rattle.text_words.specs.Words.{between}

pub laid_kept : (from : ℕ) (b w : List ℕ) → from ≤ length w → take from (laid from b w) ≡ take from w
laid_kept from b w h = take_at (take from w) (b ++ drop (from + length b) w) from (length-take-le from w h)

pub laid-between : (from n : ℕ) (b w : List ℕ) → n ≡ from + length b → from ≤ length w → between from n (laid from b w) ≡ b
laid-between from n b w e h =
    let k : n - from ≡ length b = omega arith in
    ap (take (n - from)) (drop_at (take from w) (b ++ drop (from + length b) w) from (length-take-le from w h))
    ∙ take_at b (drop (from + length b) w) (n - from) (sym k)
