-- `set_judge::or_next` meets its contract, answer by answer. Assumes nothing.
use mathlib.Core.Path.{sym, ap, ◌∙◌}
use Rattle.numbers.proofs.Bools.{cond-true, cond-false}
use Rattle.edit_rules.proofs.Outcomes.{done-refused}
use Rattle.set_rules.specs.Sets.{is_done, or_next}
use Rattle.set_rules.proofs.Accepted.{undone}
use Rattle.set_judge.proofs.or_next.Goals as goal

pub returns-in-Ok : goal.returns-in-Ok
unfolding or_next
returns-in-Ok c = let a = c.args in sym (cond-true a.b a.a (ap is_done c.in-Ok.is))

pub returns-in-Err : goal.returns-in-Err
unfolding or_next
returns-in-Err c = let a = c.args in sym (cond-false a.b a.a (undone a.a.answer (λ q. done-refused (sym q ∙ c.in-Err.is))))
