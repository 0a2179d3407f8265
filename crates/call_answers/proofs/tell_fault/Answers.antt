-- A fault is told by its number, which has twenty digits at most, and so fits. Assumes nothing.
use native.Mathlib.Omega.{arith}
use Rattle.call_answers.proofs.Room.{decimal-short}
use Rattle.call_answers.proofs.tell_fault.Goals as goal

pub put_decimal-requires : goal.put_decimal-requires
put_decimal-requires c = omega (arith, decimal-short c.fault_number.result, c.requires)

pub returns : goal.returns
returns c =
    let f = c.fault_number in
    rw (← f.ensures) (record { puts = c.put_decimal.ensures; short = decimal-short f.result })
