-- `request_lines::tell_refusal` meets its contract: the fault's number is told as the answer to line 0. Assumes nothing.
use native.Mathlib.Omega.{arith}
use Rattle.request_lines.proofs.tell_refusal.Goals as goal

pub returns : goal.returns
returns c = record { tells = rw (← c.fault_number.ensures) c.tell.ensures.tells; within = omega (arith, c.tell.ensures.within) }
