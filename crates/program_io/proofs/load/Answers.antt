-- `program_io::load` meets its contract: what was read stands at the front, and where there is no file there is nothing. Assumes nothing.
use Rattle.std.proofs.Common.{refl}
use mathlib.Core.Logic.{inr}
use Rattle.program_io.specs.Files.{read_from_file}
use Rattle.program_io.proofs.load.Goals as goal

pub returns-in-None-clause-file : goal.returns-in-None-clause-file
returns-in-None-clause-file g c = rw c.in-None.is (read_from_file _ (record { front = refl; whole = inr refl }))

pub returns-in-Some-clause-file : goal.returns-in-Some-clause-file
returns-in-Some-clause-file g c = rw c.in-Some.is (read_from_file _ c.read_file-len.ensures.reads)
