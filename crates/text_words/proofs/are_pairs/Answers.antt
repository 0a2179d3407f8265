-- `text_words::are_pairs` meets its contract: the library's chunks are the pairs, and each is tested. Assumes nothing.
use Rattle.std.proofs.Common.{◌∙◌, rules, tests}
use Rattle.std.proofs.lemmas.Iterator.Search.{all_from_yields_List}
use Rattle.text_words.specs.Words.{is_said, hex_octet}
use Rattle.text_words.proofs.Parts.{YieldsList-from_pairs, octets-said, read_said}
use Rattle.text_words.proofs.are_pairs.Goals as goal

pub returns : goal.returns
returns c =
    let w = c.args.word.now in
    all_from_yields_List (λ p. is_said (hex_octet p)) _ _ _ c.all.ensures.ran
    (YieldsList-from_pairs w c.chunks.ensures.rest c.chunks.ensures.size)
    (λ x b q k. search (rules, tests, read_said))
    ∙ octets-said w
