use native.Mathlib.Omega.{arith}
use mathlib.Core.Path.{◌∙◌}
use Rattle.octets.proofs.Orders.{order-differ, order-ends}
use Rattle.octets.proofs.compare.Goals as goal

pub returns-then-a-i : goal.returns-then-a-i
returns-then-a-i c =
    let l = c.loop-i in
    c.cmp.ensures ∙ order-differ _ _ l.i l.invariant (omega arith) (omega arith) c.if-a-i.true

pub returns : goal.returns
returns c =
    let l = c.loop-i in
    c.cmp-2.ensures ∙ order-ends _ _ l.i l.invariant (omega arith)
