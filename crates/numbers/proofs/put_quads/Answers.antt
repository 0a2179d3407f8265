use mathlib.Core.Path.{◌≡◌}
use Prim.Native.Nat.{◌+◌, ◌*◌}
use native.Mathlib.Omega.{arith}
use lib.ListN.{get_or}
use Rattle.numbers.proofs.BigEndian.{length-bytes_of, bytes-at}
use Rattle.numbers.specs.BigEndian.{quad, bytes}
use Rattle.numbers.proofs.Laid.{filled_more, filled-end}
use Rattle.numbers.proofs.put_quads.Goals as goal

pub loop-i-preserved : goal.loop-i-preserved
loop-i-preserved c =
    let p = c.args.parts.now in
    let n = length-bytes_of quad p in
    let f = filled_more c.loop-i.invariant (bytes quad (get_or p c.loop-i.i 0)) (bytes-at quad p c.loop-i.i (omega arith)) (omega (arith, n)) (omega (arith, n)) in
    let from : 4 * c.loop-i.i ≡ c.loop-i.i * 4 = omega arith in
    let to : (c.loop-i.i + 1) * 4 ≡ c.loop-i.i * 4 + 4 = omega arith in
    rw (c.put_quad.ensures, from, to) f

pub returns : goal.returns
returns c =
    let n = length-bytes_of quad c.args.parts.now in
    filled-end c.loop-i.invariant (omega (arith, n)) (omega (arith, n))
