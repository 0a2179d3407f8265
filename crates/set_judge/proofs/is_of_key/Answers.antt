-- `set_judge::is_of_key` meets its contract: the table, then the bytes in front. Assumes nothing.
use mathlib.Core.Path.{sym, ap, ◌∙◌}
use lib.ListN.{length, take}
use Rattle.numbers.specs.Order.{same}
use Rattle.numbers.proofs.Bools.{and-false-left}
use Rattle.set_rules.specs.Made.{begins}
use Rattle.set_judge.proofs.Bytes.{true-and}
use Rattle.set_judge.proofs.is_of_key.Goals as goal

pub returns-else-is_same_table : goal.returns-else-is_same_table
unfolding begins
returns-else-is_same_table c = c.if-is_same_table.false ∙ sym (and-false-left _ (sym c.is_same_table.ensures ∙ c.if-is_same_table.false))

pub returns-then-is_same_table : goal.returns-then-is_same_table
unfolding begins
returns-then-is_same_table c =
    let a = c.args in
    let s = sym c.is_same_table.ensures ∙ c.if-is_same_table.true in
    c.has_front.ensures ∙ ap (λ v. same (take (length a.key.now) v) a.key.now) c.bytes_of.ensures ∙ true-and _ s
