-- `set_judge::judge_edits` meets its contract. The loop's invariant: the first refusal of the edits from place i on is the first of all. Assumes nothing.
use mathlib.Core.Path.{◌≡◌}
use Prim.Native.Nat.{suc, ◌-◌, ◌≤◌}
use Rattle.set_rules.specs.Sets.{first_refused}
use Rattle.set_rules.specs.Handed.{edits_from}
use Rattle.set_judge.specs.Asked.{judged_with}
use Rattle.set_judge.proofs.judge_edits.Given as goal

abbrev pub invariant-loop-i : goal.invariant-loop-i
invariant-loop-i l = (l.i ≤ l.count) × (first_refused (judged_with l.w l.l l.standing) (suc l.i) (edits_from l.edits l.bytes l.i (l.count - l.i))
    ≡ first_refused (judged_with l.w l.l l.standing) 1 (edits_from l.edits l.bytes 0 l.count))
