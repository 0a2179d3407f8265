-- Document 01's number for each case of a decoder's answer ("Where each number is met"). Assumes nothing.
use Rattle.std.specs.Prelude.{ℕ}
use Rattle.std.specs.Prelude.{Ok, Err}
use Rattle.answers.specs.Numbers.{fault_number}
use Rattle.instance_decode.specs.Types.{Decoded}

-- success is 0, and carries table, column and the key's length
abbrev pub decoded_number : Decoded → ℕ
decoded_number (Ok i) = 0
decoded_number (Err f) = fault_number f
