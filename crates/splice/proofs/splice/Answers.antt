-- `splice::splice` meets its contract: what stands behind the part moves from `at + gone` to `at` and the length of `new`, and `copy_in` puts
-- `new` where the elements moved away from. Assumes nothing.
use Rattle.splice.proofs.Splices.{paste-moved}
use Rattle.splice.proofs.splice.Goals as goal

pub returns : goal.returns
returns c =
    let s = c.args in
    rw (c.copy_in.ensures, c.shift.ensures)
    (paste-moved s.w.now s.at s.gone s.end s.new.now c.requires.part c.requires.inside c.requires.room)
