-- `call_verbs::verb_named` meets its contract: the word's place among the words of `verbs` is its verb's. Assumes nothing.
use mathlib.Core.Path.{◌≡◌, sym, ap, ◌∙◌}
use Prim.Native.Nat.{◌≤◌}
use native.Mathlib.Omega.{arith}
use Rattle.text_words.proofs.Named.{words_of, named-at, named_none}
use Rattle.text_words.specs.Words.{split, place}
use Rattle.call_verbs.specs.Calls.{verb_word, verbs, or_unknown, verb_named}
use Rattle.call_verbs.proofs.verb_named.Goals as goal

pub returns-in-0 : goal.returns-in-0
unfolding verb_named split
returns-in-0 c =
    let found : c.place_of.result ≡ place c.args.word.now (words_of verb_word verbs) = c.place_of.ensures in
    ap or_unknown (named-at verb_word _ verbs 0 (sym c.in-0.is ∙ found))

pub returns-in-1 : goal.returns-in-1
unfolding verb_named split
returns-in-1 c =
    let found : c.place_of.result ≡ place c.args.word.now (words_of verb_word verbs) = c.place_of.ensures in
    ap or_unknown (named-at verb_word _ verbs 1 (sym c.in-1.is ∙ found))

pub returns-in-2 : goal.returns-in-2
unfolding verb_named split
returns-in-2 c =
    let found : c.place_of.result ≡ place c.args.word.now (words_of verb_word verbs) = c.place_of.ensures in
    ap or_unknown (named-at verb_word _ verbs 2 (sym c.in-2.is ∙ found))

pub returns-in-3 : goal.returns-in-3
unfolding verb_named split
returns-in-3 c =
    let found : c.place_of.result ≡ place c.args.word.now (words_of verb_word verbs) = c.place_of.ensures in
    ap or_unknown (named-at verb_word _ verbs 3 (sym c.in-3.is ∙ found))

pub returns-in-4 : goal.returns-in-4
unfolding verb_named split
returns-in-4 c =
    let found : c.place_of.result ≡ place c.args.word.now (words_of verb_word verbs) = c.place_of.ensures in
    ap or_unknown (named-at verb_word _ verbs 4 (sym c.in-4.is ∙ found))

pub returns-in-5 : goal.returns-in-5
unfolding verb_named split
returns-in-5 c =
    let found : c.place_of.result ≡ place c.args.word.now (words_of verb_word verbs) = c.place_of.ensures in
    ap or_unknown (named-at verb_word _ verbs 5 (sym c.in-5.is ∙ found))

pub returns-in-6 : goal.returns-in-6
unfolding verb_named split
returns-in-6 c =
    let found : c.place_of.result ≡ place c.args.word.now (words_of verb_word verbs) = c.place_of.ensures in
    ap or_unknown (named-at verb_word _ verbs 6 (sym c.in-6.is ∙ found))

pub returns-in-7 : goal.returns-in-7
unfolding verb_named split
returns-in-7 c =
    let found : c.place_of.result ≡ place c.args.word.now (words_of verb_word verbs) = c.place_of.ensures in
    ap or_unknown (named-at verb_word _ verbs 7 (sym c.in-7.is ∙ found))

pub returns-in_default : goal.returns-in_default
unfolding verb_named split
returns-in_default c =
    let found : c.place_of.result ≡ place c.args.word.now (words_of verb_word verbs) = c.place_of.ensures in
    let n = c.place_of.result in
    let l : 8 ≤ n = omega arith in
    ap or_unknown (named_none verb_word _ verbs n found l)
