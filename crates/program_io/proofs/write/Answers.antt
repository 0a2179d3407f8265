-- `program_io::write` meets its contract: a text that was taken is written on, and otherwise the desk is closed. Assumes nothing.
use Rattle.std.proofs.Common.{refl}
use Rattle.numbers.proofs.Bools.{clash}
use Rattle.program_io.specs.Desk.{written_on, output_failed}
use Rattle.program_io.proofs.write.Goals as goal

pub returns-in_default : goal.returns-in_default
returns-in_default g c = record { moves = λ o m. written_on _ c.in_default.ensures.bytes m; same = refl; stays_closed = λ o. o; closes = λ e o. clash o e }

pub returns-in-Err : goal.returns-in-Err
returns-in-Err g c = record { moves = λ o m. clash o refl; same = refl; stays_closed = λ o. clash o refl; closes = λ e o. output_failed }
