-- `tryreq::serve` meets its contract. The loop's invariant: what is written and what is told but not written yet is the report of the lines taken
-- (`Telling`), there is room to tell of one more, and a piece that is used up was the last. The measure is how much is still to be read. Assumes nothing.
use Rattle.std.proofs.Common.{◌≡◌, ◌+◌, ◌≤◌, suc, length, true}
use Rattle.image_judge.specs.Faults.{tables_at}
use Rattle.text_words.specs.Words.{longest}
use Rattle.program_io.specs.Outside.{outside}
use Rattle.program_io.specs.Desk.{Ready, pending}
use Rattle.request_lines.specs.Report.{most_told}
use Rattle.tryreq.proofs.Telling.{Telling}
use Rattle.tryreq.proofs.serve.Given as goal

abbrev pub invariant-loop-d : goal.invariant-loop-d
invariant-loop-d g l = record {
  telling : Telling (tables_at l.image l.l) (outside (g.R.Read.remaining l.fn.input) (g.W.Write.contents l.fn.output))
      (outside (g.R.Read.remaining l.input) (g.W.Write.contents l.output)) l.d l.piece l.line l.out l.used;
  ready : Ready l.d l.piece;
  begun_in : l.d.begun ≤ length l.line;
  room : l.used + most_told ≤ length l.out;
  used_up : l.d.writable ≡ true → l.d.at ≡ l.d.end → l.d.reads ≡ 0;
  line_length : length l.line ≡ suc longest;
  out_length : length l.out ≡ 65536;
}

abbrev pub decreases-loop-d : goal.decreases-loop-d
decreases-loop-d g l = pending l.d
