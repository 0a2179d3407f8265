use Rattle.std.proofs.Common.{◌≡◌, ◌<◌, length, refl, sym, ◌∙◌, arith, true}
use lib.ListN.{length-set}
use Rattle.std.proofs.lemmas.Iterator.Consumers.{YieldsList-at, YieldsList-turn, YieldsList-end}
use Rattle.std.proofs.lemmas.List.{length_push}
use Rattle.text_words.specs.Words.{is_said}
use Rattle.text_words.proofs.Words.{reads-start, reads-bad, reads-next, reads_end, unsaid, empty-said, said-none, said-not, hex-empty, hex-dash, hex-some}
use Rattle.text_words.proofs.Parts.{YieldsList-from_pairs, pairs, pairs-fit, octets_of, octets-pairs, octets-next, octets-end}
use Rattle.text_words.proofs.hex_octets.Goals as goal

pub returns-then-is_empty : goal.returns-then-is_empty
returns-then-is_empty c = unsaid _ (hex-empty _ (grind arith))

pub returns-then-are_same : goal.returns-then-are_same
returns-then-are_same c = empty-said _ _ _ (hex-dash _ (sym c.are_same.ensures ∙ c.if-are_same.true)) (omega arith)

pub returns-then-not-are_pairs : goal.returns-then-not-are_pairs
returns-then-not-are_pairs c =
    unsaid _ (hex-some _ (grind arith) (sym c.are_same.ensures ∙ c.if-are_same.false) ∙ said-none _ (sym c.are_pairs.ensures ∙ c.if-not-are_pairs.true))

pub loop-pair-init : goal.loop-pair-init
loop-pair-init c = (omega arith, refl, reads-start _ _ _ (omega (arith, c.requires)))

pub returns-in_err-out : goal.returns-in_err-out
returns-in_err-out c =
    let w = c.args.word.now in
    let t = YieldsList-turn (YieldsList-at c.into_iter-pair-iterator.ensures.into_iter_gives (YieldsList-from_pairs w c.chunks-pair-items.ensures.rest c.chunks-pair-items.ensures.size)) c.loop-pair.yielded _ c.loop-pair.yielded_by _ _ c.in-Some.pair c.in-Some.is c.next.ensures.steps in
    let judged : is_said (octets_of (pairs w)) ≡ true = rw (octets-pairs w) (sym c.are_pairs.ensures ∙ c.if-not-are_pairs.false) in
    said-not judged (reads-bad c.loop-pair.invariant.2 _ _ (octets-next (pairs w) _ t) (sym c.in_err-out.ensures))

pub bounds-out-n : goal.bounds-out-n
bounds-out-n c =
    let w = c.args.word.now in
    let t = YieldsList-turn (YieldsList-at c.into_iter-pair-iterator.ensures.into_iter_gives (YieldsList-from_pairs w c.chunks-pair-items.ensures.rest c.chunks-pair-items.ensures.size)) c.loop-pair.yielded _ c.loop-pair.yielded_by _ _ c.in-Some.pair c.in-Some.is c.next.ensures.steps in
    omega (arith, t.0, pairs-fit w, c.requires)

pub loop-pair-preserved : goal.loop-pair-preserved
loop-pair-preserved c =
    let w = c.args.word.now in
    let l = c.loop-pair in
    let t = YieldsList-turn (YieldsList-at c.into_iter-pair-iterator.ensures.into_iter_gives (YieldsList-from_pairs w c.chunks-pair-items.ensures.rest c.chunks-pair-items.ensures.size)) c.loop-pair.yielded _ c.loop-pair.yielded_by _ _ c.in-Some.pair c.in-Some.is c.next.ensures.steps in
    let m = length_push l.yielded c.in-Some.pair in
    let h : l.n < length c.args.out.now = omega (arith, t.0, pairs-fit w, c.requires) in
    (omega (arith, m), length-set l.out l.n _ ∙ l.invariant.1, rw m (reads-next l.invariant.2 _ _ (octets-next (pairs w) _ t) (sym c.in_ok-out.ensures) h))

pub returns : goal.returns
returns c =
    let w = c.args.word.now in
    let l = c.loop-pair in
    let t = YieldsList-end (YieldsList-at c.into_iter-pair-iterator.ensures.into_iter_gives (YieldsList-from_pairs w c.chunks-pair-items.ensures.rest c.chunks-pair-items.ensures.size)) c.loop-pair.yielded _ c.loop-pair.yielded_by _ _ c.in-None.is c.next.ensures.steps in
    rw (hex-some w (grind arith) (sym c.are_same.ensures ∙ c.if-are_same.false), ← octets-pairs w)
    (reads_end l.invariant.2 (octets-end (pairs w) _ (omega (arith, t.1))) (omega (arith, t.1, pairs-fit w)))
