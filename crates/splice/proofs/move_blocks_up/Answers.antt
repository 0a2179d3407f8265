use mathlib.Core.Path.{refl, ◌∙◌}
use Prim.Native.Nat.{◌+◌, ◌-◌}
use native.Mathlib.Omega.{arith}
use borrow.Author.Rules.{rules}
use Rattle.splice.specs.Moves.{block}
use Rattle.splice.proofs.Moves.{moved_none, moved_front}
use Rattle.splice.proofs.move_blocks_up.Goals as goal

pub loop-j-init : goal.loop-j-init
loop-j-init c = (search rules, search rules, moved_none c.args.w.now c.args.end (c.args.end + c.args.by), refl)

pub loop-j-preserved : goal.loop-j-preserved
loop-j-preserved c =
    let l = c.loop-j in (
      omega arith,
      omega arith,
      c.move_block.ensures
          ∙ moved_front _ _ (l.j - block) (l.j - block + block) l.j _ _ l.invariant.2 (omega arith) (omega arith) (omega arith) (omega arith),
      search rules,
    )

pub returns : goal.returns
returns c = let l = c.loop-j in record { behind = l.invariant.0; within = l.invariant.1; moves = l.invariant.2 }
