use mathlib.Core.Path.{◌≡◌, sym, ap, ◌∙◌}
use mathlib.Core.List.{List}
use Prim.Native.Nat.{ℕ}
use native.Mathlib.Omega.{arith}
use lib.ListN.{take, get_or}
use lib.Seq.{get_or-take, take-take}
use Rattle.numbers.proofs.Orders.{same-eq, same-ne}
use Rattle.octets.proofs.same_front.Goals as goal

pub returns-then-a-i : goal.returns-then-a-i
returns-then-a-i c =
    let i = c.loop-i.i in
    let n = c.args.n in
    let at : (v : List ℕ) → get_or (take n v) i 0 ≡ get_or v i 0 = λ v. get_or-take n v i 0 (omega arith) in
    sym (same-ne _ _ (λ e. c.if-a-i.true (sym (at _) ∙ ap (λ v. get_or v i 0) e ∙ at _)))

pub returns : goal.returns
returns c =
    let l = c.loop-i in
    let n = c.args.n in
    let front : (v : List ℕ) → take n (take l.i v) ≡ take n v = λ v. take-take n l.i v (omega arith) in
    sym (same-eq _ _ (sym (front _) ∙ ap (take n) l.invariant ∙ front _))
