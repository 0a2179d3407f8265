use mathlib.Core.Path.{◌≡◌, sym, ap, ◌∙◌}
use Prim.Native.Nat.{◌-◌}
use native.Mathlib.Omega.{arith}
use Rattle.set_rules.specs.Sets.{keys_differ}
use Rattle.set_rules.specs.Handed.{edits_from}
use Rattle.set_judge.proofs.Places.{edits-none, differ-here, differ-next}
use Rattle.set_judge.proofs.keys_differ.Goals as goal

pub loop-i-init : goal.loop-i-init
loop-i-init c =
    let a = c.args in
    let z : a.count - 0 ≡ a.count = omega arith in
    (omega arith, ap (λ n. keys_differ (edits_from a.edits a.bytes.now 0 n)) z)

pub is_repeated-requires : goal.is_repeated-requires
is_repeated-requires c = record { few = c.requires; place = c.loop-i-test.true }

pub returns-then-is_repeated : goal.returns-then-is_repeated
returns-then-is_repeated c =
    let l = c.loop-i in
    let a = c.args in
    sym (differ-here a.edits a.bytes.now l.i a.count c.loop-i-test.true (sym c.is_repeated.ensures ∙ c.if-is_repeated.true)) ∙ l.invariant.1

pub loop-i-preserved : goal.loop-i-preserved
loop-i-preserved c =
    let l = c.loop-i in
    let a = c.args in (
      omega (arith, c.loop-i-test.true),
      differ-next a.edits a.bytes.now l.i a.count c.loop-i-test.true (sym c.is_repeated.ensures ∙ c.if-is_repeated.false) ∙ l.invariant.1,
    )

pub returns : goal.returns
returns c =
    let l = c.loop-i in
    let a = c.args in
    sym (ap keys_differ (edits-none a.edits a.bytes.now l.i a.count (omega (arith, c.loop-i-test.false)))) ∙ l.invariant.1
