-- `text_fields::small` meets its contract: the number's byte, where one holds it. Assumes nothing.
use mathlib.Core.Path.{◌≡◌, sym}
use Prim.Native.Nat.{◌<◌}
use native.Mathlib.Omega.{arith}
use lib.ListN.{length}
use Rattle.numbers.specs.BigEndian.{octet, bytes}
use Rattle.numbers.proofs.Laid.{laid-set}
use Rattle.text_words.proofs.Words.{unsaid}
use Rattle.text_fields.proofs.FieldWords.{numbered-none, numbered-over, numbered-some, ok-some, ok_none}
use Rattle.text_fields.proofs.small.Goals as goal

pub returns-in_err-n : goal.returns-in_err-n
returns-in_err-n c = rw c.from_residual.ensures (unsaid _ (numbered-none octet (sym c.in_err-n.ensures)))

pub returns-in_err-x : goal.returns-in_err-x
returns-in_err-x c =
    let over = ok_none _ _ c.try_from.ensures c.in_err-x.ensures.value in
    rw c.from_residual-in_err-x.ensures (unsaid _ (numbered-over octet (sym c.in_ok-n.ensures) (omega (arith, over))))

pub returns : goal.returns
returns c =
    let x = c.in_ok-x.x in
    let fits = ok-some _ c.try_from.ensures c.in_ok-x.ensures.value in
    let held : x ≡ c.in_ok-n.n = omega (arith, fits.1) in
    let h : c.args.from < length c.args.out.now = omega (arith, c.requires) in
    record {
      of = bytes octet x;
      is = rw held (numbered-some octet (sym c.in_ok-n.ensures) (omega (arith, fits.0, fits.1)));
      lays = laid-set c.args.from x c.args.out.now h;
      ends = omega arith;
      inside = omega (arith, c.requires);
      short = omega arith;
    }
