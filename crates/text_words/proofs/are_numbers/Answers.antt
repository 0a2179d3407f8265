-- `text_words::are_numbers` meets its contract: the parts that the library cuts at the dots are those of `split`, and each is tested. Assumes nothing.
use Rattle.std.proofs.Common.{◌∙◌, refl, rules, tests, arith}
use Rattle.std.proofs.lemmas.Grind.{common_steps}
use Rattle.std.proofs.lemmas.Iterator.Search.{all_from_yields_List}
use Rattle.text_words.specs.Words.{is_said, decimal, split}
use Rattle.text_words.proofs.Parts.{YieldsList-from_parts, numbers-said, read_said}
use Rattle.text_words.proofs.are_numbers.Goals as goal

pub returns : goal.returns
returns c =
    let w = c.args.word.now in
    all_from_yields_List (λ p. is_said (decimal p)) _ _ _ c.all.ensures.ran
    (YieldsList-from_parts _ 46 w refl (grind (arith, common_steps)) c.split.ensures.done c.split.ensures.closure (λ x b q k. search (rules, tests)))
    (λ x b q k. search (rules, tests, read_said))
    ∙ numbers-said (split 46 w)
