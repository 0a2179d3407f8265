use mathlib.Core.Path.{refl, sym, ap, ◌∙◌}
use native.Mathlib.Omega.{arith}
use Rattle.numbers.specs.Lists.{any}
use Rattle.set_rules.specs.Made.{begins}
use Rattle.set_judge.proofs.Places.{edits-none, any_here, any_next}
use Rattle.set_judge.proofs.comes_again.Goals as goal

pub loop-i-init : goal.loop-i-init
loop-i-init c = (c.requires.place, refl)

pub bounds-edits-i : goal.bounds-edits-i
bounds-edits-i c = omega (arith, c.loop-i-test.true, c.requires.few)

pub returns-then-is_of_key : goal.returns-then-is_of_key
returns-then-is_of_key c =
    let a = c.args in
    sym (any_here (begins a.t a.key.now) a.edits a.bytes.now c.loop-i.i a.count c.loop-i-test.true
    (sym c.is_of_key.ensures ∙ c.if-is_of_key.true))
    ∙ c.loop-i.invariant.1

pub loop-i-preserved : goal.loop-i-preserved
loop-i-preserved c =
    let a = c.args in (
      omega (arith, c.loop-i-test.true),
      any_next (begins a.t a.key.now) a.edits a.bytes.now c.loop-i.i a.count c.loop-i-test.true
          (sym c.is_of_key.ensures ∙ c.if-is_of_key.false)
          ∙ c.loop-i.invariant.1,
    )

pub returns : goal.returns
returns c =
    let l = c.loop-i in
    let a = c.args in
    sym (ap (any (begins a.t a.key.now)) (edits-none a.edits a.bytes.now l.i a.count (omega (arith, c.loop-i-test.false)))) ∙ l.invariant.1
