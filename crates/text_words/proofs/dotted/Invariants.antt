-- `text_words::dotted` meets its contract. The word is judged first, so a part that is no number is not met behind that. The loop's invariant: the
-- numbers laid and those that the parts left say make all of them (`Reads`).
-- A part that is a number has an octet, and a dot follows it, so there is room for each (`numbers-fit`). Assumes nothing.
use Rattle.std.proofs.Common.{◌≡◌, ◌+◌, length, drop}
use Rattle.text_words.specs.Words.{split, decimals}
use Rattle.text_words.proofs.Words.{Reads}
use Rattle.text_words.proofs.dotted.Given as goal

abbrev pub invariant-loop-part : goal.invariant-loop-part
invariant-loop-part l = (l.n ≡ l.from + length l.yielded) × (length l.out ≡ length l.initial.out)
    × Reads (decimals (split 46 l.word)) l.initial.out l.out l.from l.n (decimals (drop (length l.yielded) (split 46 l.word)))
