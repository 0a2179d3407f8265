-- `set_words::set_end` meets its contract: the line is too long, or its first word is `set`, or another. Assumes nothing.
use mathlib.Core.Path.{sym, ◌∙◌}
use native.Mathlib.Omega.{arith}
use Rattle.text_words.proofs.WordsFrom.{WordAt, word-from}
use Rattle.set_words.proofs.Sets.{set_long, set-begun, set_other}
use Rattle.set_words.proofs.set_end.Goals as goal

pub returns-then-line-gt-LONGEST_LINE : goal.returns-then-line-gt-LONGEST_LINE
returns-then-line-gt-LONGEST_LINE c = set_long _ c.if-line-gt-LONGEST_LINE.true

pub returns-then-are_same : goal.returns-then-are_same
returns-then-are_same c =
    let first : WordAt 0 c.args.line.now c.end_of-end.result = word-from _ _ _ (omega arith) c.end_of-end.ensures in
    set-begun first c.if-line-gt-LONGEST_LINE.false (sym c.are_same.ensures ∙ c.if-are_same.true)

pub returns : goal.returns
returns c =
    let first : WordAt 0 c.args.line.now c.end_of-end.result = word-from _ _ _ (omega arith) c.end_of-end.ensures in
    set_other first c.if-line-gt-LONGEST_LINE.false (sym c.are_same.ensures ∙ c.if-are_same.false)
