-- `octets::are_same` meets its contract. Lists of different lengths are not the same, nor are lists whose last four octets differ.
-- Fewer than four octets are a front of both that is the whole; else the fronts and the last four make the whole. Assumes nothing.
use mathlib.Core.Path.{sym, ap, ◌∙◌}
use Prim.Native.Nat.{◌-◌}
use native.Mathlib.Omega.{arith}
use lib.ListN.{length}
use Rattle.numbers.proofs.Orders.{same-ne}
use Rattle.octets.proofs.Sames.{same-but-four, four-differ}
use Rattle.octets.proofs.are_same.Goals as goal

pub returns-then-n-b : goal.returns-then-n-b
returns-then-n-b c = sym (same-ne _ _ (λ e. omega (arith, ap length e)))

pub returns-then-not-same_four : goal.returns-then-not-same_four
returns-then-not-same_four c =
    let i = length c.args.a.now - 4 in
    sym (four-differ _ _ i (sym c.same_four.ensures ∙ c.if-not-same_four.true))

pub returns : goal.returns
returns c =
    let i = length c.args.a.now - 4 in
    let same-last = sym c.same_four.ensures ∙ c.if-not-same_four.false in
    c.same_front-2.ensures
    ∙ same-but-four _ _ (λ i. omega (arith, c.type_inv.a i)) (λ i. omega (arith, c.type_inv.b i)) i
    (omega arith) (omega arith) same-last
