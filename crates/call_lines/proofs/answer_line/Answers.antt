-- The number and a space stand in front, the answer is told behind them, and a newline ends the line. Assumes nothing.
use native.Mathlib.Omega.{arith}
use Rattle.text_values.proofs.Digits.{length-decimal}
use Rattle.call_lines.proofs.Lines.{space-fits, play-fits, newline-fits, puts-line}
use Rattle.call_lines.proofs.answer_line.Goals as goal

pub put_decimal-space-requires : goal.put_decimal-space-requires
put_decimal-space-requires c = omega (arith, length-decimal c.args.number, c.requires)

pub put_octet-from-requires : goal.put_octet-from-requires
put_octet-from-requires c = space-fits c.args.number c.requires c.put_decimal-space.ensures

pub play-newline-requires : goal.play-newline-requires
play-newline-requires c = play-fits c.args.number c.requires c.put_decimal-space.ensures c.put_octet-from.ensures

pub put_octet-requires : goal.put_octet-requires
put_octet-requires c = newline-fits c.args.number c.requires c.put_decimal-space.ensures c.put_octet-from.ensures c.play-newline.ensures

pub returns : goal.returns
returns c = puts-line c.args.number c.requires c.put_decimal-space.ensures c.put_octet-from.ensures c.play-newline.ensures c.put_octet.ensures
