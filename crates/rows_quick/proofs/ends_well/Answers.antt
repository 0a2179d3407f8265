-- `rows_quick::ends_well` meets its contract: the two bytes are the last ones, and each test is what `within` ensures. Assumes nothing.
use Rattle.rows_quick.proofs.ends_well.Goals as goal

pub returns : goal.returns
returns c = rw (c.within.ensures, c.within-2.ensures, c.byte_at-status.ensures.value, c.byte_at-storage.ensures.value)
