-- `text_words::hex_octets` meets its contract. The word is judged first, so a digit with no other and a pair that is none are not met behind that.
-- The loop's invariant: the octets laid and those that the pairs left say make all of them (`Reads`). Assumes nothing.
use Rattle.std.proofs.Common.{◌≡◌, ◌+◌, length, drop}
use Rattle.text_words.proofs.Words.{Reads}
use Rattle.text_words.proofs.Parts.{pairs, octets_of}
use Rattle.text_words.proofs.hex_octets.Given as goal

abbrev pub invariant-loop-pair : goal.invariant-loop-pair
invariant-loop-pair l = (l.n ≡ l.from + length l.yielded) × (length l.out ≡ length l.initial.out)
    × Reads (octets_of (pairs l.word)) l.initial.out l.out l.from l.n (octets_of (drop (length l.yielded) (pairs l.word)))
