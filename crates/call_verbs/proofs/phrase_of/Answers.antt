-- `call_verbs::phrase_of` meets its contract: the first word is `match`, and the next names the phrase, or it names the phrase alone.
-- Assumes nothing.
use mathlib.Core.Path.{sym, ◌∙◌}
use native.Mathlib.Omega.{arith}
use Rattle.text_words.proofs.WordsFrom.{WordAt, word-from}
use Rattle.call_verbs.proofs.Phrases.{first-is-match, first-is-other}
use Rattle.call_verbs.proofs.phrase_of.Goals as goal

pub returns-then-are_same : goal.returns-then-are_same
returns-then-are_same c =
    let first : WordAt 0 c.args.line.now c.end_of-end.result = word-from _ _ _ (omega arith) c.end_of-end.ensures in
    first-is-match first (sym c.are_same.ensures ∙ c.if-are_same.true) c.match_phrase.ensures

pub returns : goal.returns
returns c =
    let first : WordAt 0 c.args.line.now c.end_of-end.result = word-from _ _ _ (omega arith) c.end_of-end.ensures in
    first-is-other first (sym c.are_same.ensures ∙ c.if-are_same.false) c.verb_named-verb.ensures
