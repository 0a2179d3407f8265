use mathlib.Core.Path.{sym, ◌∙◌}
use native.Mathlib.Omega.{arith}
use Rattle.octets.proofs.Sames.{take-four}
use Rattle.octets.proofs.Orders.{before-differ, before-four, before-ends}
use Rattle.octets.proofs.ascends.Goals as goal
use Rattle.octets.proofs.ascends.Goals.{then-n-i-ge4+else-x-y, else-n-i-ge4}

pub returns-then-x-y : goal.returns-then-x-y
returns-then-x-y c =
    let e = c.quad_at-x.ensures.value in
    let g = c.quad_at-y.ensures.value in
    rw (e, g)
    (sym (before-four _ _ c.skip-i.result c.skip-i.ensures.equal (omega arith) (omega arith) (λ i. omega (arith, c.type_inv.a i)) (λ i. omega (arith, c.type_inv.b i))
    (λ q. c.if-x-y.true (e ∙ q ∙ sym g))))

pub loop-j-init : goal.loop-j-init
loop-j-init c =
    elim c.if-n-i-ge4.branch [
      | then-n-i-ge4+else-x-y u ↦
          rw u.i-is (
            omega arith,
            take-four _ _ (λ i. omega (arith, c.type_inv.a i)) (λ i. omega (arith, c.type_inv.b i)) c.skip-i.result (omega arith) (omega arith) c.skip-i.ensures.equal
                (sym u.quad_at-x.ensures.value ∙ u.if-x-y.false ∙ u.quad_at-y.ensures.value),
          )
      | else-n-i-ge4 u ↦ rw u.i-is (omega arith, c.skip-i.ensures.equal)
    ]

pub returns-then-a-j : goal.returns-then-a-j
returns-then-a-j c =
    let l = c.loop-j in
    sym (before-differ _ _ l.j l.invariant.1 (omega arith) (omega arith) c.if-a-j.true)

pub returns : goal.returns
returns c =
    let l = c.loop-j in
    sym (before-ends _ _ l.j l.invariant.1 (omega arith))
