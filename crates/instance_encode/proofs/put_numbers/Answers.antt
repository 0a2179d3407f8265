use mathlib.Core.Path.{◌≡◌, sym, ap, ◌∙◌}
use Prim.Native.Nat.{◌*◌}
use native.Mathlib.Omega.{arith}
use lib.ListN.{drop}
use Rattle.numbers.specs.BigEndian.{quad, number}
use Rattle.numbers.proofs.BigEndian.{length-numbers, get_or-numbers}
use Rattle.instance_encode.proofs.Filled.{from_next, from_end}
use Rattle.instance_encode.proofs.put_numbers.Goals as goal

pub loop-i-preserved : goal.loop-i-preserved
loop-i-preserved c =
    let l = c.loop-i in
    let s = c.args in
    let m : 4 * l.i ≡ l.i * 4 = omega arith in
    let e = c.quad_at.ensures.value ∙ ap (λ o. number quad (drop o s.bytes.now)) m ∙ sym (get_or-numbers quad s.n l.i s.bytes.now c.loop-i-test.true) in
    let n = length-numbers quad s.n s.bytes.now in
    from_next l.invariant _ e (omega (arith, n, c.loop-i-test.true)) (omega (arith, n, c.requires.room))

pub returns : goal.returns
returns c = from_end c.loop-i.invariant (omega (arith, length-numbers quad c.args.n c.args.bytes.now, c.loop-i-test.false))
