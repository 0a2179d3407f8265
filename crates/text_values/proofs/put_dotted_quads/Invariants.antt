-- `text_values::put_dotted_quads` meets its contract: no whole sub-identifier is `-`; otherwise the first is put, and the loop's invariant says
-- that the text of those in the bytes that the library has left to cut is still to be put. Assumes nothing.
use Rattle.std.proofs.Common.{◌≡◌, drop}
use Rattle.std.specs.Slice.Iter.{chunks_exact_rest, chunks_exact_size}
use Rattle.decision_steps.specs.Bytes.{identifier}
use Rattle.text_values.specs.Texts.{dots_text}
use Rattle.text_values.proofs.Puts.{Onward}
use Rattle.text_values.proofs.put_dotted_quads.Given as goal

abbrev pub invariant-loop-quad : goal.invariant-loop-quad
invariant-loop-quad l = (chunks_exact_size l.quad-iterator ≡ 4)
    × Onward (dots_text (identifier (drop 4 l.bytes))) l.initial.o l.initial.out (dots_text (identifier (chunks_exact_rest l.quad-iterator))) l.o l.out
