-- `program_io::read_file` meets its contract. The loop's invariant: no more is read than there is room for, and it is the front of what the file had. The
-- measure is the room that is left. Assumes nothing.
use Rattle.std.proofs.Common.{◌≡◌, ◌-◌, ◌≤◌, length, take}
use Rattle.std.specs.Io.KnownBytes.{Consumes}
use Rattle.program_io.proofs.read_file.Given as goal

abbrev pub invariant-loop-len : goal.invariant-loop-len
invariant-loop-len g l = record {
  within : l.len ≤ length l.octets;
  room : length l.octets ≡ length l.fn.octets;
  gave : Consumes (g.F.Read.remaining l.fn.file) (g.F.Read.remaining l.file) (take l.len l.octets);
}

abbrev pub decreases-loop-len : goal.decreases-loop-len
decreases-loop-len g l = length l.octets - l.len
