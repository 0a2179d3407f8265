-- `text_values::put_dotted` meets its contract: no sub-identifier is `-`; otherwise the first is put, and the loop's invariant says
-- that the text of those that are left is still to be put. Assumes nothing.
use lib.ListN.{drop}
use Rattle.text_values.specs.Texts.{dots_text}
use Rattle.text_values.proofs.Puts.{Onward}
use Rattle.text_values.proofs.put_dotted.Given as goal

abbrev pub invariant-loop-part : goal.invariant-loop-part
invariant-loop-part l = Onward (dots_text l.rest) l.initial.o l.initial.out (dots_text (drop l.part-index l.rest)) l.o l.out
