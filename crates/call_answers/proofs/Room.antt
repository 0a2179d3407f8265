-- What fits: a number always, and the first of two parts where both do. Assumes nothing.
use mathlib.Core.List.{List, ◌++◌}
use Prim.Native.Nat.{ℕ, ◌+◌, ◌≤◌}
use native.Mathlib.Omega.{arith}
use lib.ListN.{length, length-append}
use Rattle.text_values.specs.Texts.{decimal_text}
use Rattle.text_values.proofs.Digits.{length-decimal}
use Rattle.call_answers.specs.Answers.{answer_room}

pub decimal-short : (n : ℕ) → length (decimal_text n) ≤ answer_room
decimal-short n = omega (arith, length-decimal n)

-- the first of two parts fits where both do
pub begun-fits : (a b : List ℕ) (at : ℕ) (out : List ℕ) → at + length (a ++ b) ≤ length out → at + length a ≤ length out
begun-fits a b at out h = omega (arith, length-append a b)
