use mathlib.Core.Path.{◌≡◌, sym, ap, ◌∙◌}
use mathlib.Core.List.{[]}
use Prim.Native.Nat.{suc, ◌-◌}
use native.Mathlib.Omega.{arith}
use Rattle.set_rules.specs.Handed.{edits_from}
use Rattle.set_rules.specs.Made.{weight}
use Rattle.set_judge.proofs.Places.{edits-none, weigh-next, weight-few}
use Rattle.set_judge.proofs.weigh.Goals as goal

pub loop-i-init : goal.loop-i-init
loop-i-init c = let a = c.args in (omega arith, sym (ap (weight a.t (suc a.count)) (edits-none a.edits [] a.count a.count (omega arith))))

pub bounds-edits-i : goal.bounds-edits-i
bounds-edits-i c = omega (arith, c.loop-i.invariant.0, c.requires, c.loop-i-test.true)

pub weigh_edit-w-requires : goal.weigh_edit-w-requires
weigh_edit-w-requires c =
    let l = c.loop-i in
    let r = weight-few c.args.t c.args.edits l.i c.args.count 8 l.invariant.1 (omega (arith, c.loop-i-test.true, c.requires, l.invariant.0)) in
    record { few = r.0; less = r.1 }

pub loop-i-preserved : goal.loop-i-preserved
loop-i-preserved c =
    let l = c.loop-i in
    let a = c.args in (
      omega (arith, l.invariant.0),
      c.weigh_edit-w.ensures ∙ weigh-next a.t a.edits l.i a.count c.loop-i-test.true l.invariant.0 l.invariant.1,
    )

pub returns : goal.returns
returns c =
    let l = c.loop-i in
    let a = c.args in
    let z : l.i ≡ 0 = omega (arith, c.loop-i-test.false) in
    let y : a.count - 0 ≡ a.count = omega arith in
    l.invariant.1 ∙ ap (λ k. weight a.t (suc k) (edits_from a.edits [] k (a.count - k))) z
    ∙ ap (λ n. weight a.t 1 (edits_from a.edits [] 0 n)) y
