-- `call_verbs::match_named` meets its contract: the word's place among the words of `match_verbs` is its verb's. Assumes nothing.
use mathlib.Core.Path.{◌≡◌, sym, ap, ◌∙◌}
use native.Mathlib.Omega.{arith}
use Rattle.text_words.proofs.Named.{words_of, named-at, named_none}
use Rattle.text_words.specs.Words.{split, place}
use Rattle.call_verbs.specs.Calls.{verb_word, match_verbs, or_unknown, verb_named}
use Rattle.call_verbs.proofs.match_named.Goals as goal

pub returns-in-0 : goal.returns-in-0
unfolding verb_named split
returns-in-0 c =
    let found : c.place_of.result ≡ place c.args.word.now (words_of verb_word match_verbs) = c.place_of.ensures in
    ap or_unknown (named-at verb_word _ match_verbs 0 (sym c.in-0.is ∙ found))

pub returns-in-1 : goal.returns-in-1
unfolding verb_named split
returns-in-1 c =
    let found : c.place_of.result ≡ place c.args.word.now (words_of verb_word match_verbs) = c.place_of.ensures in
    ap or_unknown (named-at verb_word _ match_verbs 1 (sym c.in-1.is ∙ found))

pub returns-in_default : goal.returns-in_default
unfolding verb_named split
returns-in_default c =
    let found : c.place_of.result ≡ place c.args.word.now (words_of verb_word match_verbs) = c.place_of.ensures in
    ap or_unknown (named_none verb_word _ match_verbs c.place_of.result found (omega arith))
