-- `text_words::word_at` meets its contract: the line ends before the place, or a word begins there. Assumes nothing.
use Rattle.text_words.proofs.WordsFrom.{at-end, at-word}
use Rattle.text_words.proofs.word_at.Goals as goal

pub returns-then-line-at : goal.returns-then-line-at
returns-then-line-at c = at-end _ _ c.if-line-at.true

pub returns : goal.returns
returns c = at-word _ _ c.if-line-at.false _ c.end_of.ensures
