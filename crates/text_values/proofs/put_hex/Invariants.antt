-- `text_values::put_hex` meets its contract. The loop's invariant: the text of the octets that are left is still to be put. Assumes nothing.
use lib.ListN.{drop}
use Rattle.text_values.specs.Texts.{hex_text}
use Rattle.text_values.proofs.Puts.{Onward}
use Rattle.text_values.proofs.put_hex.Given as goal

abbrev pub invariant-loop-x : goal.invariant-loop-x
invariant-loop-x l = Onward (hex_text l.octets) l.at l.initial.out (hex_text (drop l.x-index l.octets)) l.o l.out
