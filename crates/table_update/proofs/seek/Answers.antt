use Rattle.table_update.proofs.Seeks.{search-start, search-up, search-equal, search-down, search-end}
use Rattle.table_update.proofs.seek.Goals as goal

pub loop-lo-init : goal.loop-lo-init
loop-lo-init c = let a = c.args in search-start a.w.now a.x a.key.now

pub middle_row-row-requires : goal.middle_row-row-requires
middle_row-row-requires c = record { inside = c.requires.inside; rows = c.loop-lo.invariant.between; some = c.loop-lo-test.true }

pub loop-lo-preserved-in-Less : goal.loop-lo-preserved-in-Less
loop-lo-preserved-in-Less c = search-up c.requires.rising c.loop-lo.invariant c.middle_row-row.ensures c.against.ensures c.in-Less.is

pub returns-in-Equal : goal.returns-in-Equal
returns-in-Equal c = search-equal c.requires.rising c.loop-lo.invariant c.middle_row-row.ensures c.against.ensures c.in-Equal.is

pub loop-lo-preserved : goal.loop-lo-preserved
loop-lo-preserved c = search-down c.requires.rising c.loop-lo.invariant c.middle_row-row.ensures c.against.ensures c.in-Greater.is

pub returns : goal.returns
returns c = search-end c.loop-lo.invariant c.loop-lo-test.false
