use Rattle.std.proofs.Common.{ap, arith, length}
use lib.ListN.{drop_of_length-le}
use Rattle.text_values.proofs.Puts.{start, done}
use Rattle.text_values.proofs.Parts.{dotted-none, first-room, rest-room, dotted-put, drop-next, dots-room, dots-step, dots-end}
use Rattle.text_values.proofs.put_dotted.Goals as goal

pub put_octet-requires : goal.put_octet-requires
put_octet-requires c = omega (arith, ap length (dotted-none c.args.parts.now c.in_default.ensures.cases), c.requires)

pub returns-in_default : goal.returns-in_default
returns-in_default c = rw (dotted-none c.args.parts.now c.in_default.ensures.cases) c.put_octet.ensures

pub put_decimal-o-requires : goal.put_decimal-o-requires
put_decimal-o-requires c = first-room c.args.at c.args.out.now c.in-Some.ensures.cases.0 c.requires c.from.ensures

pub loop-part-init : goal.loop-part-init
loop-part-init c = start (rest-room c.args.at c.args.out.now c.in-Some.ensures.cases.0 c.requires c.from.ensures c.put_decimal-o.ensures)

-- in a turn the part at the index is the next

pub put_number-o-requires : goal.put_number-o-requires
put_number-o-requires c =
    dots-room (drop-next c.in-Some.rest.now c.loop-part.part-index c.loop-part-test.true) c.loop-part.invariant c.from-in-loop-part.ensures

pub loop-part-preserved : goal.loop-part-preserved
loop-part-preserved c =
    dots-step (drop-next c.in-Some.rest.now c.loop-part.part-index c.loop-part-test.true) c.loop-part.invariant c.from-in-loop-part.ensures
    c.put_number-o.ensures

pub returns : goal.returns
returns c =
    let e = drop_of_length-le c.in-Some.rest.now c.loop-part-test.false in
    dotted-put c.args.at c.args.out.now c.in-Some.ensures.cases.0 c.requires c.from.ensures c.put_decimal-o.ensures
    (done (rw (dots-end _ e) at c.loop-part.invariant))
