-- `set_judge::is_set` meets its contract: how many there are, then their keys. Assumes nothing.
use mathlib.Core.Path.{◌≡◌, sym, ap, ◌∙◌}
use lib.ListN.{length}
use Rattle.numbers.proofs.Bools.{and-false-left}
use Rattle.rows.specs.Fields.{within}
use Rattle.rows.proofs.Sound.{within-most}
use Rattle.set_rules.specs.Sets.{most_edits, is_set}
use Rattle.set_rules.specs.Handed.{edits_of}
use Rattle.set_judge.proofs.Bytes.{true-and}
use Rattle.set_judge.proofs.Places.{length-edits}
use Rattle.set_judge.proofs.is_set.Goals as goal

pub keys_differ-requires : goal.keys_differ-requires
keys_differ-requires c = within-most 1 most_edits _ (sym c.within.ensures ∙ c.if-within.true)

pub returns-then-within : goal.returns-then-within
unfolding is_set
returns-then-within c =
    let a = c.args in
    let many : within 1 most_edits (length (edits_of a.s a.bytes.now)) ≡ c.within.result = ap (within 1 most_edits) (length-edits a.s.edits a.bytes.now 0 a.s.count) ∙ sym c.within.ensures in
    c.keys_differ.ensures ∙ true-and _ (many ∙ c.if-within.true)

pub returns-else-within : goal.returns-else-within
unfolding is_set
returns-else-within c =
    let a = c.args in
    let many : within 1 most_edits (length (edits_of a.s a.bytes.now)) ≡ c.within.result = ap (within 1 most_edits) (length-edits a.s.edits a.bytes.now 0 a.s.count) ∙ sym c.within.ensures in
    c.if-within.false ∙ sym (and-false-left _ (many ∙ c.if-within.false))
