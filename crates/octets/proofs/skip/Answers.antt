use mathlib.Core.Path.{sym, ◌∙◌}
use native.Mathlib.Omega.{arith}
use Rattle.octets.proofs.Sames.{take-eight}
use Rattle.octets.proofs.skip.Goals as goal

pub loop-i-preserved : goal.loop-i-preserved
loop-i-preserved c =
    let e = sym c.same_eight.ensures ∙ c.if-not-same_eight.false in (
      omega arith,
      take-eight _ _ (λ i. omega (arith, c.type_inv.a i)) (λ i. omega (arith, c.type_inv.b i))
          c.loop-i.i (omega arith) (omega arith) c.loop-i.invariant.1 e,
    )
