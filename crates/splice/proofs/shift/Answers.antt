-- `splice::shift` meets its contract: up by `to - from`, or down by `from - to`, or not at all where the two are equal. Assumes nothing.
use mathlib.Core.Path.{◌≡◌}
use Prim.Native.Nat.{◌+◌, ◌-◌}
use native.Mathlib.Omega.{arith}
use Rattle.splice.proofs.Moves.{moved_same}
use Rattle.splice.proofs.shift.Goals as goal

pub returns-then-from-to : goal.returns-then-from-to
returns-then-from-to c =
    let s = c.args in
    let e : s.to ≡ s.from + (s.to - s.from) = omega arith in
    rw e c.move_up.ensures

pub returns-then-to-from : goal.returns-then-to-from
returns-then-to-from c =
    let s = c.args in
    let e : s.to ≡ s.from - (s.from - s.to) = omega arith in
    rw e c.move_down.ensures

pub returns-else-to-from : goal.returns-else-to-from
returns-else-to-from c =
    let s = c.args in
    let e : s.to ≡ s.from = omega arith in
    rw e (moved_same s.w.now s.from s.end)
