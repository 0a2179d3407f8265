-- `set_words::behind_edit` meets its contract: there is no word behind the edit, or it is `;`, or it is a word over. Assumes nothing.
use mathlib.Core.Path.{sym, ◌∙◌}
use native.Mathlib.Omega.{arith}
use Rattle.text_words.proofs.WordsFrom.{WordAt, word-missing, word-found}
use Rattle.set_words.proofs.EditWords.{parted, over}
use Rattle.set_words.proofs.behind_edit.Goals as goal

pub returns-in_default : goal.returns-in_default
returns-in_default c = word-missing _ _ (sym c.word_at.ensures ∙ c.in_default.is)

pub slice_bounds-are_same-count : goal.slice_bounds-are_same-count
slice_bounds-are_same-count c =
    let found : WordAt c.args.at c.args.line.now c.in-Some.end = word-found _ _ (sym c.word_at.ensures ∙ c.in-Some.is) in
    (found).forward

pub slice_bounds-are_same-start : goal.slice_bounds-are_same-start
slice_bounds-are_same-start c =
    let found : WordAt c.args.at c.args.line.now c.in-Some.end = word-found _ _ (sym c.word_at.ensures ∙ c.in-Some.is) in
    (found).forward

pub slice_bounds-are_same-end : goal.slice_bounds-are_same-end
slice_bounds-are_same-end c =
    let found : WordAt c.args.at c.args.line.now c.in-Some.end = word-found _ _ (sym c.word_at.ensures ∙ c.in-Some.is) in
    (found).inside

pub overflow_add-result : goal.overflow_add-result
overflow_add-result c =
    let found : WordAt c.args.at c.args.line.now c.in-Some.end = word-found _ _ (sym c.word_at.ensures ∙ c.in-Some.is) in
    omega (arith, (found).inside)

pub returns-then-are_same : goal.returns-then-are_same
returns-then-are_same c =
    let found : WordAt c.args.at c.args.line.now c.in-Some.end = word-found _ _ (sym c.word_at.ensures ∙ c.in-Some.is) in
    parted found (sym c.are_same.ensures ∙ c.if-are_same.true)

pub returns : goal.returns
returns c =
    let found : WordAt c.args.at c.args.line.now c.in-Some.end = word-found _ _ (sym c.word_at.ensures ∙ c.in-Some.is) in
    over found (sym c.are_same.ensures ∙ c.if-are_same.false)
