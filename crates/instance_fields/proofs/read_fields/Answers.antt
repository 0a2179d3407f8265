use mathlib.Core.List.{[]}
use mathlib.Core.Path.{refl, ◌∙◌}
use native.Mathlib.Omega.{arith}
use lib.ListN.{drop_of_length-le}
use Rattle.rows.specs.Rows.{key_fields}
use Rattle.rows.proofs.Bounds.{key-longest}
use Rattle.rows.proofs.Forms.{key-within, room-longest}
use Rattle.instance_fields.proofs.Way.{OnWay, way-start, next-of-key, way_next, way-stop, stop-lays, way_end, end-lays}
use Rattle.instance_fields.proofs.read_fields.Goals as goal

pub loop-i-init : goal.loop-i-init
loop-i-init c = (refl, way-start (key_fields c.args.t) c.args.index.now c.args.key.now 0 0 (omega (arith, c.requires, key-longest c.args.t)))

pub form_at-requires : goal.form_at-requires
form_at-requires c = omega (arith, c.loop-i-test.true, c.key_len-i-end.ensures, key-within c.args.t)

pub field-requires : goal.field-requires
field-requires c =
    let w = next-of-key c.args.t c.loop-i.i c.form_at.ensures c.loop-i.invariant.1 (omega (arith, c.loop-i-test.true, c.key_len-i-end.ensures)) in
    omega (arith, room-longest c.form_at.result, w.room)

pub returns-in_err-at : goal.returns-in_err-at
returns-in_err-at c =
    let w = next-of-key c.args.t c.loop-i.i c.form_at.ensures c.loop-i.invariant.1 (omega (arith, c.loop-i-test.true, c.key_len-i-end.ensures)) in
    let r = c.field.ensures in
    rw c.from_residual.ensures (record { reads = way-stop w r.reads _ r.lays c.in_err-at.was; lays = stop-lays w r.reads _ r.lays c.in_err-at.was })

pub loop-i-preserved : goal.loop-i-preserved
loop-i-preserved c =
    let w = next-of-key c.args.t c.loop-i.i c.form_at.ensures c.loop-i.invariant.1 (omega (arith, c.loop-i-test.true, c.key_len-i-end.ensures)) in
    let r = c.field.ensures in
    (c.field.auto.key ∙ c.loop-i.invariant.0, way_next w r.reads _ r.lays c.in_ok-at.was)

pub returns : goal.returns
returns c =
    let l = c.loop-i in
    let t = c.args.t in
    let g = drop_of_length-le (key_fields t) {i = l.i} (omega (arith, c.loop-i-test.false, c.key_len-i-end.ensures)) in
    let w : OnWay _ _ _ _ _ [] _ _ _ = rw g at l.invariant.1 in
    record { reads = way_end w; lays = end-lays w }
