-- `splice::splice_two` meets its contract. Whichever is moved first, the other has not been stored over: what stands behind the second part
-- goes to no place in front of `at` where what stands between moves on, and what stands between goes to no place behind `at` where it moves
-- back. So where the arms meet all is in its place but `new`, which `copy_in` puts there. Assumes nothing.
use mathlib.Core.Path.{◌∙◌}
use native.Mathlib.Omega.{arith}
use Rattle.splice.proofs.Splices.{behind-first, between_first}
use Rattle.splice.proofs.splice_two.Goals as goal
use Rattle.splice.proofs.splice_two.Goals.{then-at-to, else-at-to}

pub returns : goal.returns
returns c =
    let s = c.args in
    let p = c.requires in
    c.copy_in.ensures
    ∙ elim c.if-at-to.branch [
      | then-at-to a ↦
          behind-first s.w.now s.place s.had s.head.now s.at s.gone s.end s.new.now p.first p.second p.inside p.room
          a.shift.new.w c.if-at-to.w (omega (arith, a.if-at-to.true)) a.shift.auto.w a.shift.ensures (a.w-is ∙ a.splice.ensures)
      | else-at-to a ↦
          between_first s.w.now s.place s.had s.head.now s.at s.gone s.end s.new.now p.first p.second p.inside p.room
          a.splice-else-at-to.new.w c.if-at-to.w (omega (arith, a.if-at-to.false)) a.splice-else-at-to.auto.w
          a.splice-else-at-to.ensures (a.w-is ∙ a.shift-else-at-to.ensures)
    ]
