use mathlib.Core.Path.{◌≡◌, refl, ap, ◌∙◌}
use Prim.Native.Nat.{ℕ, ◌+◌, ◌-◌}
use native.Mathlib.Omega.{arith}
use lib.ListN.{length-set}
use borrow.Author.Rules.{rules}
use Rattle.splice.specs.Moves.{moved}
use Rattle.splice.proofs.Moves.{moved_none, moved_back, moved-one}
use Rattle.splice.proofs.move_down.Goals as goal

pub loop-j-init : goal.loop-j-init
loop-j-init c =
    let b = c.move_blocks_down-j in
    let s = c.args in
    (search rules, search rules, moved_none b.new.w b.result (b.result - s.by), refl)

pub loop-j-preserved : goal.loop-j-preserved
loop-j-preserved c =
    let l = c.loop-j in
    let s = c.args in
    let one = moved-one l.w l.j (l.j - s.by) (omega arith) (omega arith) in (
      omega arith,
      omega arith,
      one ∙ moved_back _ _ _ l.j (l.j + 1) _ l.invariant.2 (omega arith) (omega arith) (omega arith) (omega arith),
      simp length-set l.invariant.3,
    )

pub returns : goal.returns
returns c =
    let l = c.loop-j in
    let b = c.move_blocks_down-j in
    let s = c.args in
    let e : l.j ≡ s.end = omega arith in
    l.invariant.2
    ∙ ap (λ (n : ℕ). moved b.new.w b.result n (b.result - s.by)) e
    ∙ moved_back _ _ s.from b.result s.end s.by b.ensures.moves (omega arith) (omega arith) (omega arith) (omega arith)
