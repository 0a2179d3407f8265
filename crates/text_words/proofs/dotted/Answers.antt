use Rattle.std.proofs.Common.{◌<◌, length, refl, sym, ◌∙◌, arith, rules, tests}
use lib.ListN.{length-set}
use Rattle.std.proofs.lemmas.Iterator.Consumers.{YieldsList-turn, YieldsList-end}
use Rattle.std.proofs.lemmas.List.{length_push}
use Rattle.text_words.specs.Words.{split}
use Rattle.text_words.proofs.Words.{reads-start, reads-bad, reads-next, reads_end, unsaid, empty-said, said-none, said-not, dotted-dash, dotted-some}
use Rattle.text_words.proofs.Parts.{YieldsList-from_parts, numbers-next, numbers-end, numbers-fit}
use Rattle.text_words.proofs.dotted.Goals as goal

pub returns-then-are_same : goal.returns-then-are_same
returns-then-are_same c = empty-said _ _ _ (dotted-dash _ (sym c.are_same.ensures ∙ c.if-are_same.true)) (omega arith)

pub returns-then-not-are_numbers : goal.returns-then-not-are_numbers
returns-then-not-are_numbers c =
    unsaid _ (dotted-some _ (sym c.are_same.ensures ∙ c.if-are_same.false) ∙ said-none _ (sym c.are_numbers.ensures ∙ c.if-not-are_numbers.true))

pub loop-part-init : goal.loop-part-init
loop-part-init c = (omega arith, refl, reads-start _ _ _ (omega (arith, c.requires)))

pub returns-in_err-out : goal.returns-in_err-out
returns-in_err-out c =
    let w = c.args.word.now in
    let ps = split 46 w in
    let t = YieldsList-turn (YieldsList-from_parts _ 46 w c.into_iter-part-iterator.ensures.into_iter_gives c.split-part-items.ensures.rest c.split-part-items.ensures.done c.split-part-items.ensures.closure (λ x b q k. search (rules, tests))) c.loop-part.yielded _ c.loop-part.yielded_by _ _ c.in-Some.part c.in-Some.is c.next.ensures.steps in
    said-not (sym c.are_numbers.ensures ∙ c.if-not-are_numbers.false)
    (reads-bad c.loop-part.invariant.2 _ _ (numbers-next ps _ t) (sym c.in_err-out.ensures))

pub bounds-out-n : goal.bounds-out-n
bounds-out-n c =
    let w = c.args.word.now in
    let t = YieldsList-turn (YieldsList-from_parts _ 46 w c.into_iter-part-iterator.ensures.into_iter_gives c.split-part-items.ensures.rest c.split-part-items.ensures.done c.split-part-items.ensures.closure (λ x b q k. search (rules, tests))) c.loop-part.yielded _ c.loop-part.yielded_by _ _ c.in-Some.part c.in-Some.is c.next.ensures.steps in
    omega (arith, t.0, numbers-fit w (sym c.are_numbers.ensures ∙ c.if-not-are_numbers.false), c.requires)

pub loop-part-preserved : goal.loop-part-preserved
loop-part-preserved c =
    let w = c.args.word.now in
    let l = c.loop-part in
    let ps = split 46 w in
    let t = YieldsList-turn (YieldsList-from_parts _ 46 w c.into_iter-part-iterator.ensures.into_iter_gives c.split-part-items.ensures.rest c.split-part-items.ensures.done c.split-part-items.ensures.closure (λ x b q k. search (rules, tests))) c.loop-part.yielded _ c.loop-part.yielded_by _ _ c.in-Some.part c.in-Some.is c.next.ensures.steps in
    let m = length_push l.yielded c.in-Some.part in
    let h : l.n < length c.args.out.now = omega (arith, t.0, numbers-fit w (sym c.are_numbers.ensures ∙ c.if-not-are_numbers.false), c.requires) in
    (omega (arith, m), length-set l.out l.n _ ∙ l.invariant.1, rw m (reads-next l.invariant.2 _ _ (numbers-next ps _ t) (sym c.in_ok-out.ensures) h))

pub returns : goal.returns
returns c =
    let w = c.args.word.now in
    let l = c.loop-part in
    let t = YieldsList-end (YieldsList-from_parts _ 46 w c.into_iter-part-iterator.ensures.into_iter_gives c.split-part-items.ensures.rest c.split-part-items.ensures.done c.split-part-items.ensures.closure (λ x b q k. search (rules, tests))) c.loop-part.yielded _ c.loop-part.yielded_by _ _ c.in-None.is c.next.ensures.steps in
    rw (dotted-some w (sym c.are_same.ensures ∙ c.if-are_same.false))
    (reads_end l.invariant.2 (numbers-end (split 46 w) _ (omega (arith, t.1)))
    (omega (arith, t.1, numbers-fit w (sym c.are_numbers.ensures ∙ c.if-not-are_numbers.false))))
