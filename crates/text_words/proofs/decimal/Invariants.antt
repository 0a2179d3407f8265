-- `text_words::decimal` meets its contract. The loop's invariant: the digits passed say `n`, which is below 2^32, and the rest goes on from it (`Words`).
-- A number that gets too large stays so, whatever follows. Assumes nothing.
use Rattle.text_words.proofs.Words.{Reading}
use Rattle.text_words.proofs.decimal.Given as goal

abbrev pub invariant-loop-c : goal.invariant-loop-c
invariant-loop-c l = Reading l.word l.c-index l.n
