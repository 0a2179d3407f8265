-- `program_io::last_line` meets its contract: a line is begun, or none is (`TakenLines`). Assumes nothing.
use native.Mathlib.Omega.{arith}
use Rattle.program_io.proofs.TakenLines.{last-begun, last_none}
use Rattle.program_io.proofs.last_line.Goals as goal

pub returns-then-d-gt0 : goal.returns-then-d-gt0
returns-then-d-gt0 c = last-begun _ c.if-d-gt0.true

pub returns-else-d-gt0 : goal.returns-else-d-gt0
returns-else-d-gt0 c = last_none _ (omega (arith, c.if-d-gt0.false))
