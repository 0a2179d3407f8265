use Rattle.std.proofs.Common.{sym, arith}
use Rattle.text_words.proofs.Words.{decimal-empty, reading-end, reading-bad, reading-large, reading-next}
use Rattle.text_words.proofs.decimal.Goals as goal

pub returns-then-is_empty : goal.returns-then-is_empty
returns-then-is_empty c = sym (decimal-empty _ (grind arith))

pub returns-in_err-digit : goal.returns-in_err-digit
returns-in_err-digit c =
    rw c.from_residual.ensures (sym (reading-bad c.loop-c.invariant c.loop-c-test.true _ c.from.ensures c.in_err-digit.ensures.value))

pub returns-then-n-gt4294967295 : goal.returns-then-n-gt4294967295
returns-then-n-gt4294967295 c =
    let d = c.in_ok-digit.ensures.value in
    sym (reading-large c.loop-c.invariant c.loop-c-test.true _ c.from.ensures d.0 (omega (arith, d.1, c.if-n-gt4294967295.true, c.from-in-loop-c.ensures)))

pub loop-c-preserved : goal.loop-c-preserved
loop-c-preserved c =
    let d = c.in_ok-digit.ensures.value in
    reading-next c.loop-c.invariant c.loop-c-test.true _ c.from.ensures d.0 (omega (arith, d.1, c.from-in-loop-c.ensures)) (omega (arith, c.if-n-gt4294967295.false))

pub returns : goal.returns
returns c = sym (reading-end c.loop-c.invariant c.loop-c-test.false)
