use mathlib.Core.Path.{sym, ◌∙◌}
use Rattle.walk_seek.proofs.Seeks.{seek-start, seek-down, seek-up, seek-end, middle-whole}
use Rattle.walk_seek.proofs.rows_above.Goals as goal

-- where the row in the middle was found

-- ---- the needs

pub loop-lo-init : goal.loop-lo-init
loop-lo-init c = seek-start c.requires _

pub middle_row-m-requires : goal.middle_row-m-requires
middle_row-m-requires c = record { inside = c.requires.inside; rows = c.loop-lo.invariant.between; some = c.loop-lo-test.true }

pub is_row_above-requires : goal.is_row_above-requires
is_row_above-requires c = middle-whole c.requires _ c.loop-lo.invariant c.middle_row-m.ensures

pub loop-lo-preserved-then-is_row_above : goal.loop-lo-preserved-then-is_row_above
loop-lo-preserved-then-is_row_above c = seek-down c.requires _ c.loop-lo.invariant c.middle_row-m.ensures (sym c.is_row_above.ensures ∙ c.if-is_row_above.true)

pub loop-lo-preserved : goal.loop-lo-preserved
loop-lo-preserved c = seek-up c.requires _ c.loop-lo.invariant c.middle_row-m.ensures (sym c.is_row_above.ensures ∙ c.if-is_row_above.false)

-- the length of the row at lo

pub returns : goal.returns
returns c = seek-end c.requires _ c.loop-lo.invariant c.loop-lo-test.false
