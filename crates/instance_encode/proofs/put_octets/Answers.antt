use native.Mathlib.Omega.{arith}
use Rattle.instance_encode.proofs.Filled.{from_next}
use Rattle.instance_encode.proofs.put_octets.Goals as goal

pub loop-i-preserved : goal.loop-i-preserved
loop-i-preserved c = from_next c.loop-i.invariant _ c.from.ensures (omega (arith, c.loop-i-test.true)) (omega (arith, c.requires))
