use mathlib.Core.Path.{sym, ◌∙◌}
use native.Mathlib.Omega.{arith}
use Rattle.walk_alike.proofs.Alikes.{alike-none, alike-four}
use Rattle.walk_alike.proofs.skip_octets.Goals as goal

pub loop-i-init : goal.loop-i-init
loop-i-init c = (omega arith, alike-none _ _)

pub loop-i-preserved : goal.loop-i-preserved
loop-i-preserved c =
    let l = c.loop-i in
    (omega arith, alike-four _ _ l.i l.invariant.1 (omega arith) (omega arith) (sym c.are_four_same.ensures ∙ c.if-not-are_four_same.false))
