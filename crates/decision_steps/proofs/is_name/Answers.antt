-- `decision_steps::is_name` meets its contract: the part of the row that is compared is the name's octets, from behind its length to its end.
-- Assumes nothing.
use mathlib.Core.Path.{ap, ◌∙◌}
use Prim.Native.Nat.{◌+◌}
use Rattle.numbers.specs.Order.{same}
use Rattle.decision_steps.proofs.Layouts.{name-part}
use Rattle.decision_steps.proofs.is_name.Goals as goal

pub returns : goal.returns
returns c =
    let s = c.args in
    let e = ap (λ n. s.at + 1 + n) c.wide.ensures.equal in
    c.are_same.ensures ∙ ap (λ u. same u s.name.now) (name-part s.row.now s.at _ e)
