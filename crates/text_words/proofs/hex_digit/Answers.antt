-- `text_words::hex_digit` meets its contract: below 16, the library's value of a digit or a letter is the definition's. Assumes nothing.
use Rattle.std.proofs.Common.{◌≡◌, ℕ, ◌<◌, Some, None, arith, tests}
use Rattle.std.specs.Char.{digit_value}
use Rattle.std.specs.Option.{SomeIff}
use mathlib.Core.Option.{none, some}
use Rattle.text_words.specs.Types.{Number}
use Rattle.text_words.specs.Words.{hex_digit, number_of}
use Rattle.text_words.proofs.hex_digit.Goals as goal

said : (c : ℕ) → digit_value c < 16 → some (digit_value c) ≡ hex_digit c
unfolding hex_digit
said c h = grind (arith, tests)

unsaid : (c : ℕ) → (digit_value c < 16 → ⊥) → none ≡ hex_digit c
unfolding hex_digit
unsaid c h = grind (arith, tests)

digit : (r : Number) (c : ℕ) → SomeIff r (digit_value c < 16) (digit_value c) → number_of r ≡ hex_digit c
digit None c h = unsaid c h
digit (Some x) c h = rw h.1 (said c h.0)

pub returns : goal.returns
returns c = digit c.to_digit.result c.args.c (rw c.from.ensures at c.to_digit.ensures.value)
