-- `splice::move_block` meets its contract: the block holds what stood at `from`, all of it, before it is copied to `to`. Assumes nothing.
use mathlib.Core.Path.{refl}
use native.Mathlib.Omega.{arith}
use Rattle.splice.specs.Moves.{block}
use Rattle.splice.proofs.Moves.{moved-block}
use Rattle.splice.proofs.move_block.Goals as goal

pub returns : goal.returns
returns c =
    let u = c.copy_in.ensures in
    let v = c.copy_in-2.ensures in
    let s = c.before.args in
    moved-block s.w.now _ _ _ block s.from s.to refl (omega arith) u v
