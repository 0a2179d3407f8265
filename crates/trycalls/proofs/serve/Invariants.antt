-- `trycalls::serve` meets its contract. The loop's invariant: the lines taken are played (`Playing`), each buffer keeps its size, and a piece that is used
-- up was the last. The measure is how much is still to be read. Assumes nothing.
use Rattle.std.proofs.Common.{◌≡◌, ◌≤◌, suc, length, true}
use Rattle.text_words.specs.Words.{longest}
use Rattle.program_io.specs.Outside.{outside}
use Rattle.program_io.specs.Desk.{Ready, pending}
use Rattle.call_lines.specs.Lines.{line_room}
use Rattle.trycalls.proofs.PlayedLines.{Playing}
use Rattle.trycalls.proofs.serve.Given as goal

abbrev pub invariant-loop-d : goal.invariant-loop-d
invariant-loop-d g l = record {
  playing : Playing (outside (g.R.Read.remaining l.fn.input) (g.W.Write.contents l.fn.output))
      (outside (g.R.Read.remaining l.input) (g.W.Write.contents l.output)) l.d l.piece l.line l.fn.store l.store;
  ready : Ready l.d l.piece;
  begun_in : l.d.begun ≤ length l.line;
  used_up : l.d.writable ≡ true → l.d.at ≡ l.d.end → l.d.reads ≡ 0;
  line_length : length l.line ≡ suc longest;
  out_length : length l.out ≡ line_room;
  store_length : length l.store ≡ length l.fn.store;
}

abbrev pub decreases-loop-d : goal.decreases-loop-d
decreases-loop-d g l = pending l.d
