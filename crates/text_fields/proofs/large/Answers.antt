-- `text_fields::large` meets its contract: the number's four bytes. Assumes nothing.
use mathlib.Core.Path.{sym}
use native.Mathlib.Omega.{arith}
use Rattle.numbers.specs.BigEndian.{quad, bytes}
use Rattle.text_words.proofs.Words.{unsaid}
use Rattle.text_fields.proofs.FieldWords.{numbered-none, numbered-some, decimal-below}
use Rattle.text_fields.proofs.large.Goals as goal

pub returns-in_err-x : goal.returns-in_err-x
returns-in_err-x c = rw c.from_residual.ensures (unsaid _ (numbered-none quad (sym c.in_err-x.ensures)))

pub returns : goal.returns
returns c =
    let w = c.put_quad in
    let x = c.in_ok-x.x in
    let d = sym c.in_ok-x.ensures in
    record {
      of = bytes quad x;
      is = numbered-some quad d (decimal-below c.args.word.now x d);
      lays = w.ensures;
      ends = omega arith;
      inside = omega (arith, c.requires);
      short = omega arith;
    }
