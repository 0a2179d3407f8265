-- `walk_compare::part_at` meets its contract: each test says in which run the part lies (`Parts`). Assumes nothing.
use mathlib.Core.Path.{sym, ◌∙◌}
use native.Mathlib.Omega.{arith}
use Rattle.walk_compare.proofs.Parts.{first_run, second_run, third-run}
use Rattle.walk_compare.proofs.part_at.Goals as goal

pub returns-then-i-from : goal.returns-then-i-from
returns-then-i-from c =
    let a = c.args in
    c.wide.ensures.equal ∙ sym (first_run a.from a.quads a.key.now c.requires.inside a.i c.if-i-from.true)

pub returns-then-i-from-2 : goal.returns-then-i-from-2
returns-then-i-from-2 c =
    let a = c.args in
    c.quad_at.ensures.value
    ∙ sym (second_run a.from a.quads a.key.now c.requires.inside a.i (omega (arith, c.if-i-from.false)) c.if-i-from-2.true)

pub returns : goal.returns
returns c =
    let a = c.args in
    c.wide-2.ensures.equal ∙ sym (third-run a.from a.quads a.key.now c.requires.inside a.i (omega (arith, c.if-i-from-2.false)))
