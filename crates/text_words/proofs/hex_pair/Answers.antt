-- `text_words::hex_pair` meets its contract: both digits say something below 16, or there is no octet. Assumes nothing.
use native.Mathlib.Omega.{arith}
use mathlib.Core.Path.{sym}
use Rattle.text_words.proofs.Words.{hex-below}
use Rattle.text_words.proofs.hex_pair.Goals as goal

pub overflow_mul-result : goal.overflow_mul-result
overflow_mul-result c = omega (arith, hex-below _ _ (sym c.in_ok-hex_digit.ensures))

pub overflow_add-result : goal.overflow_add-result
overflow_add-result c = omega (arith, hex-below _ _ (sym c.in_ok-hex_digit.ensures), hex-below _ _ (sym c.in_ok-hex_digit-2.ensures))

pub overflow_cast-result : goal.overflow_cast-result
overflow_cast-result c = omega (arith, hex-below _ _ (sym c.in_ok-hex_digit.ensures), hex-below _ _ (sym c.in_ok-hex_digit-2.ensures))
