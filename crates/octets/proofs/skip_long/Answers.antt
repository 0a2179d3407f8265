use native.Mathlib.Omega.{arith}
use Rattle.octets.proofs.Sames.{take-four-eights}
use Rattle.octets.proofs.skip_long.Goals as goal

pub loop-i-preserved : goal.loop-i-preserved
loop-i-preserved c = (
  omega arith,
  take-four-eights _ _ (λ i. omega (arith, c.type_inv.a i)) (λ i. omega (arith, c.type_inv.b i))
      c.loop-i.i (omega arith) (omega arith) c.loop-i.invariant.1
      c.same_eight.ensures c.same_eight-in-loop-i.ensures c.same_eight-in-loop-i-2.ensures c.same_eight-in-loop-i-3.ensures
      c.if-not-same_eight.false,
)
