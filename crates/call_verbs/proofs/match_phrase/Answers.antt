-- `call_verbs::match_phrase` meets its contract: the word there, if any, names the phrase, and the next begins behind it. Assumes nothing.
use mathlib.Core.Path.{sym, ◌∙◌}
use native.Mathlib.Omega.{arith}
use Rattle.text_words.proofs.WordsFrom.{WordAt, word-missing, word-found}
use Rattle.call_verbs.proofs.Phrases.{match-missing, match-word}
use Rattle.call_verbs.proofs.match_phrase.Goals as goal

pub returns-in_default : goal.returns-in_default
returns-in_default c = match-missing (word-missing _ _ (sym c.word_at.ensures ∙ c.in_default.is)) c.requires

pub slice_bounds-match_named-count : goal.slice_bounds-match_named-count
slice_bounds-match_named-count c =
    let found : WordAt c.args.at c.args.line.now c.in-Some.end = word-found _ _ (sym c.word_at.ensures ∙ c.in-Some.is) in
    (found).forward

pub slice_bounds-match_named-start : goal.slice_bounds-match_named-start
slice_bounds-match_named-start c =
    let found : WordAt c.args.at c.args.line.now c.in-Some.end = word-found _ _ (sym c.word_at.ensures ∙ c.in-Some.is) in
    (found).forward

pub slice_bounds-match_named-end : goal.slice_bounds-match_named-end
slice_bounds-match_named-end c =
    let found : WordAt c.args.at c.args.line.now c.in-Some.end = word-found _ _ (sym c.word_at.ensures ∙ c.in-Some.is) in
    (found).inside

pub overflow_add-next : goal.overflow_add-next
overflow_add-next c =
    let found : WordAt c.args.at c.args.line.now c.in-Some.end = word-found _ _ (sym c.word_at.ensures ∙ c.in-Some.is) in
    omega (arith, (found).inside)

pub returns : goal.returns
returns c =
    let found : WordAt c.args.at c.args.line.now c.in-Some.end = word-found _ _ (sym c.word_at.ensures ∙ c.in-Some.is) in
    match-word found c.match_named-verb.ensures
