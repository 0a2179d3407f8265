-- `image_judge::judge_table` meets its contract. The loop's invariant: a walk over the extent's rows (`Walks`), those passed without fault and
-- the key of the last of them from `before` to `key` (`Judged`), within what is passed. So a row's own fault, or a key that is not above
-- the last one, is the table's fault, and when no row is left there is none; the first row, where `before` is `key`, has none to be above.
-- Assumes nothing.
use Prim.Native.Nat.{◌+◌, ◌*◌, ◌≤◌}
use Rattle.image_layout.proofs.Walks.{Walk}
use Rattle.image_judge.proofs.Judged.{Judged}
use Rattle.image_judge.proofs.judge_table.Given as goal

abbrev pub invariant-loop-i : goal.invariant-loop-i
invariant-loop-i l = Walk l.w l.x l.i (l.x.lengths + 2 * l.i) l.o × Judged l.t l.w l.x l.i l.o l.before l.key × (l.before ≤ l.key) × (l.key ≤ l.o)
