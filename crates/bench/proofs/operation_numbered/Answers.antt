-- Each test decides one number: the last operation is what is left. Assumes nothing.
use borrow.Author.Tests.{eq-eqb, ne_eqb}
use Rattle.bench.proofs.operation_numbered.Goals as goal

pub returns-then-n-eq0 : goal.returns-then-n-eq0
returns-then-n-eq0 c = rw (eq-eqb c.args.n 0 c.if-n-eq0.true)

pub returns-then-n-eq1 : goal.returns-then-n-eq1
returns-then-n-eq1 c = let a = c.args in rw (ne_eqb a.n 0 c.if-n-eq0.false, eq-eqb a.n 1 c.if-n-eq1.true)

pub returns : goal.returns
returns c = let a = c.args in rw (ne_eqb a.n 0 c.if-n-eq0.false, ne_eqb a.n 1 c.if-n-eq1.false)
