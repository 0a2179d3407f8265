-- `program_io::start` meets its contract: nothing is read, so nothing is begun and nothing left. Assumes nothing.
use mathlib.Core.Path.{refl}
use mathlib.Core.List.{[]}
use native.Mathlib.Omega.{arith}
use Rattle.numbers.proofs.Bools.{clash}
use Rattle.program_io.specs.Desk.{nothing_moved}
use Rattle.program_io.proofs.Lines.{one-line-nil}
use Rattle.program_io.proofs.start.Goals as goal

pub returns : goal.returns
returns c = record {
  taken = λ from piece line. record {
    closed = λ e. clash refl e;
    input = [];
    moved = λ o. nothing_moved;
    number_is = refl;
    begun = [];
    one_line = one-line-nil.runs;
    keeps = refl;
    cut = λ o later h. refl;
    counted = λ o l. omega arith;
    read_all = λ o z. absurd (omega arith);
  };
  ready = λ piece e. record { piece_length = e; at_in = omega arith; end_in = omega arith; counts = omega arith };
  none_begun = refl;
}
