-- `text_words::end_of` meets its contract: the index that the library finds is how far the mark stands, and where it finds none all octets stand
-- before the mark. Assumes nothing.
use native.Mathlib.Omega.{arith}
use Rattle.text_words.proofs.Words.{ends-first, ends-nowhere}
use Rattle.text_words.proofs.end_of.Goals as goal

pub returns-in-Some : goal.returns-in-Some
returns-in-Some c =
    let s = c.args in
    let f = c.in-Some.ensures in
    ends-first s.mark s.s.now s.at c.requires c.in-Some.i f.0.high (λ k l. f.0.before k (omega arith) l) f.1

pub returns-in-None : goal.returns-in-None
returns-in-None c =
    let s = c.args in
    let f = c.in-None.ensures in
    ends-nowhere s.mark s.s.now s.at c.requires (λ k l. f k (omega arith) l)
