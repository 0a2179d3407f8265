-- `text_words::place_of` meets its contract: of the words that the library cuts at the spaces, it counts those in front of the first that is the
-- same. Assumes nothing.
use Rattle.std.proofs.Common.{not, ◌∙◌, rules, tests}
use Rattle.std.proofs.lemmas.Iterator.Consumers.{count_from_yields_List}
use Rattle.std.proofs.lemmas.Iterator.Search.{YieldsList-from_take_while}
use Rattle.std.proofs.lemmas.List.Folds.{length-prefix_len}
use Rattle.numbers.specs.Order.{same}
use Rattle.text_words.specs.Words.{words}
use Rattle.text_words.proofs.Parts.{YieldsList-from_parts, place-passed}
use Rattle.text_words.proofs.place_of.Goals as goal

pub returns : goal.returns
returns c =
    let w = c.args.word.now in
    let vs = words c.args.list.now in
    count_from_yields_List c.take_while.result c.count.result c.count.ensures.ran
    (YieldsList-from_take_while _ (λ v. not (same v w))
    (YieldsList-from_parts _ 32 c.args.list.now c.take_while.ensures.source c.split.ensures.rest c.split.ensures.done c.split.ensures.closure (λ x b q k. search (rules, tests)))
    c.take_while.ensures.closure c.take_while.ensures.done (λ x b q k. search (rules, tests)))
    ∙ length-prefix_len (λ v. not (same v w)) vs ∙ place-passed w vs
