-- `instance_fields::sequence_at` meets its contract: the count at the place, and as many numbers behind it (`Takes`). The count is no more than the
-- room allows. Assumes nothing.
use mathlib.Core.Path.{sym, ◌∙◌}
use Prim.Native.Nat.{◌+◌, ◌≤◌}
use native.Mathlib.Nat.{mul-le-mul_right}
use native.Mathlib.Omega.{arith}
use lib.ListN.{length, length-set}
use Rattle.numbers.specs.BigEndian.{size}
use Rattle.instance_fields.specs.Reading.{width_of}
use Rattle.instance_fields.proofs.Takes.{sequence-bad, sequence-unlaid, sequence-read, sequence-laid}
use Rattle.instance_fields.proofs.Fields.{count_of}
use Rattle.instance_fields.proofs.sequence_at.Goals as goal

pub returns-in_err-n : goal.returns-in_err-n
returns-in_err-n c =
    let s = c.args in
    let e = sym c.count.ensures ∙ c.in_err-n.was in
    rw c.from_residual.ensures (record {
      reads = sequence-bad (width_of s.w) s.lo s.hi s.index.now s.at s.byte e;
      lays = sequence-unlaid (width_of s.w) s.lo s.hi s.index.now s.at s.byte e s.key.now;
    })

pub numbers_at-requires : goal.numbers_at-requires
numbers_at-requires c =
    let s = c.args in
    let n = c.in_ok-n.n in
    let most : n ≤ s.hi = (count_of s.lo s.hi s.index.now s.at (sym c.count.ensures ∙ c.in_ok-n.was)).0.most in
    omega (arith, c.requires, mul-le-mul_right (size (width_of s.w)) most, length-set s.key.now s.byte n)

pub returns : goal.returns
returns c =
    let s = c.args in
    let e = sym c.count.ensures ∙ c.in_ok-n.was in
    let n = c.numbers_at in
    let h : s.byte + 1 ≤ length s.key.now = omega (arith, c.requires) in
    record {
      reads = sequence-read (width_of s.w) s.lo s.hi s.index.now s.at s.byte e n.result n.ensures.reads;
      lays = sequence-laid (width_of s.w) s.lo s.hi s.index.now s.at s.byte e s.key.now _ h n.ensures.lays;
    }
