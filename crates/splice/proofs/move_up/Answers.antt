use mathlib.Core.Path.{◌≡◌, refl, ap, ◌∙◌}
use Prim.Native.Nat.{ℕ, ◌+◌, ◌-◌}
use native.Mathlib.Omega.{arith}
use lib.ListN.{length-set}
use borrow.Author.Rules.{rules}
use Rattle.splice.specs.Moves.{moved}
use Rattle.splice.proofs.Moves.{moved_none, moved_front, moved-one}
use Rattle.splice.proofs.move_up.Goals as goal

pub loop-j-init : goal.loop-j-init
loop-j-init c =
    let b = c.move_blocks_up-j in
    let s = c.args in
    (search rules, search rules, moved_none b.new.w b.result (b.result + s.by), refl)

pub loop-j-preserved : goal.loop-j-preserved
loop-j-preserved c =
    let l = c.loop-j in
    let s = c.args in
    let i : ℕ = l.j - 1 in
    let one = moved-one l.w i (i + s.by) (omega arith) (omega arith) in (
      omega arith,
      omega arith,
      one ∙ moved_front _ _ i (i + 1) l.j _ _ l.invariant.2 (omega arith) (omega arith) (omega arith) (omega arith),
      simp length-set l.invariant.3,
    )

pub returns : goal.returns
returns c =
    let l = c.loop-j in
    let b = c.move_blocks_up-j in
    let s = c.args in
    let e : l.j ≡ s.from = omega arith in
    l.invariant.2
    ∙ ap (λ (n : ℕ). moved b.new.w n b.result (n + s.by)) e
    ∙ moved_front _ _ s.from b.result b.result s.end s.by b.ensures.moves (omega arith) (omega arith) (omega arith) (omega arith)
