use mathlib.Core.Path.{refl, ◌∙◌}
use native.Mathlib.Omega.{arith}
use Rattle.walk_alike.proofs.Alikes.{alike_next}
use Rattle.walk_alike.proofs.same_octets.Goals as goal

pub loop-i-init : goal.loop-i-init
loop-i-init c = (omega (arith, c.min-n.ensures), (omega (arith, c.min-n.ensures), c.skip_octets-i.ensures.same))

pub overflow_cast-parts : goal.overflow_cast-parts
overflow_cast-parts c = omega (arith, c.shared_slice_known-in-loop-i-1.given c.loop-i.i)

pub loop-i-preserved : goal.loop-i-preserved
loop-i-preserved c =
    let l = c.loop-i in (
      l.invariant.0,
      (
        l.invariant.1.0,
        alike_next _ _ l.i _ refl l.invariant.1.1 (omega (arith, c.loop-i-test.true, l.invariant.1.0)) (omega (arith, c.loop-i-test.true, l.invariant.0))
            (c.if-parts-i.false ∙ c.wide.ensures.equal),
      ),
    )
