-- `program_io::read_some` meets its contract: what was read is taken from the front of what the reader had, and where nothing was, it is at its end or the
-- read failed. Assumes nothing.
use mathlib.Core.Logic.{inl}
use Rattle.std.proofs.KnownBytes.{Consumes-nil, Consumes-kept}
use Rattle.program_io.specs.Outside.{input_failed}
use Rattle.program_io.proofs.read_some.Goals as goal

pub returns-in-Err-clause-reads : goal.returns-in-Err-clause-reads
returns-in-Err-clause-reads g c = record {
  gives = Consumes-kept _ _ _ _ (Consumes-nil _) c.in-Err.ensures.bytes;
  at_end = λ some none. inl input_failed;
}
