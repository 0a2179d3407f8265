use lib.ListN.{length-set}
use Rattle.text_values.proofs.Puts.{start, done}
use Rattle.text_values.proofs.Parts.{hex-room, hex-step, hex-end}
use native.Mathlib.Omega.{arith}
use Rattle.text_values.proofs.put_hex.Goals as goal

pub loop-x-init : goal.loop-x-init
loop-x-init c = start c.requires

pub hex_digit-requires : goal.hex_digit-requires
hex_digit-requires c = omega (arith, c.type_inv.octets c.loop-x.x-index)

pub bounds-out-o : goal.bounds-out-o
bounds-out-o c =
    let l = c.loop-x in
    let s = c.args in
    omega (arith, hex-room s.octets.now l.x-index l.o l.out c.loop-x-test.true l.invariant)

pub hex_digit-requires-in-loop-x : goal.hex_digit-requires-in-loop-x
hex_digit-requires-in-loop-x c = omega arith

pub bounds-out-o-in-loop-x : goal.bounds-out-o-in-loop-x
bounds-out-o-in-loop-x c =
    let l = c.loop-x in
    let s = c.args in
    rw length-set (omega (arith, hex-room s.octets.now l.x-index l.o l.out c.loop-x-test.true l.invariant))

pub loop-x-preserved : goal.loop-x-preserved
loop-x-preserved c =
    let l = c.loop-x in
    let s = c.args in
    hex-step s.octets.now l.x-index l.o l.out c.loop-x-test.true l.invariant
    c.hex_digit.result c.hex_digit-in-loop-x.result c.hex_digit.ensures c.hex_digit-in-loop-x.ensures

pub shape_of-out : goal.shape_of-out
shape_of-out c = c.loop-x.invariant.kept

pub returns : goal.returns
returns c =
    let l = c.loop-x in
    let s = c.args in
    done (rw (hex-end s.octets.now l.x-index c.loop-x-test.false) at l.invariant)
