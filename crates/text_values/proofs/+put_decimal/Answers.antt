use mathlib.Core.Path.{ap}
use native.Mathlib.Omega.{arith}
use lib.ListN.{length}
use Rattle.text_values.proofs.Digits.{decimal-one, tenth-fits, digit-fits, digit-put}
use Rattle.text_values.proofs.+put_decimal.Goals as goal

pub put_octet-requires : goal.put_octet-requires
put_octet-requires t c = omega (arith, ap length (decimal-one c.args.n (omega arith)), c.requires)

pub returns-then-n-lt10 : goal.returns-then-n-lt10
returns-then-n-lt10 t c = rw (decimal-one c.args.n (omega arith), ← c.decimal_digit.ensures) c.put_octet.ensures

pub put_decimal-end-requires : goal.put_decimal-end-requires
put_decimal-end-requires t c =
    (omega arith, tenth-fits c.args.at c.args.n c.args.out.now (omega arith) (omega arith) c.requires)

pub put_octet-requires-2 : goal.put_octet-requires-2
put_octet-requires-2 t c =
    let p = c.put_decimal-end in
    let f = digit-fits c.args.at c.args.n c.args.out.now (omega arith) (omega (arith, c.ranges.n)) c.requires
    p.result p.new.out p.ensures in
    omega (arith, f, p.ensures.ends)

pub returns : goal.returns
returns t c =
    let o = c.put_octet-2 in
    let d = c.decimal_digit-2 in
    let p = c.put_decimal-end in
    digit-put c.args.at c.args.n c.args.out.now (omega arith) (omega (arith, c.ranges.n)) c.requires
    p.result p.new.out p.ensures
    d.result o.result o.new.out d.ensures o.ensures
