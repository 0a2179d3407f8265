use mathlib.Core.List.{[]}
use mathlib.Core.Path.{◌≡◌, refl, ap, ◌∙◌}
use Prim.Native.Nat.{◌+◌, ◌-◌, ◌≤◌}
use native.Mathlib.Nat.{sub-zero}
use native.Mathlib.Omega.{arith}
use lib.ListN.{length, replicate}
use Rattle.rows.specs.Fields.{integer}
use Rattle.rows.proofs.Bounds.{longest}
use Rattle.instance_fields.specs.Reading.{width_of, any_part}
use Rattle.instance_fields.proofs.Fields.{largest-fits, longest-parts}
use Rattle.instance_fields.proofs.Way.{OnWay, way-start, next-alike, way_next, way-stop, stop-lays, way_end, end-lays}
use Rattle.instance_fields.proofs.numbers_at.Goals as goal

pub loop-init : goal.loop-init
loop-init c =
    let s = c.args in
    let f = any_part (width_of s.w) in
    let h : s.byte + longest (replicate s.n f) ≤ length s.key.now = omega (arith, c.requires, longest-parts (width_of s.w) s.n) in
    (omega arith, refl, rw (sub-zero s.n) (way-start (replicate s.n f) s.index.now s.key.now s.at s.byte h))

pub integer_at-requires : goal.integer_at-requires
integer_at-requires c =
    let e = ap (integer (width_of c.args.w) 0) c.largest_in-hi.ensures in
    let w = next-alike c.args.n c.loop.counter e c.loop.invariant.2 c.loop-test.true in
    record { room = omega (arith, w.room); fits = rw c.largest_in-hi.ensures (largest-fits (width_of c.args.w)) }

pub returns-in_err-p : goal.returns-in_err-p
returns-in_err-p c =
    let e = ap (integer (width_of c.args.w) 0) c.largest_in-hi.ensures in
    let w = next-alike c.args.n c.loop.counter e c.loop.invariant.2 c.loop-test.true in
    let r = c.integer_at.ensures in
    rw c.from_residual.ensures (record { reads = way-stop w r.reads _ r.lays c.in_err-p.was; lays = stop-lays w r.reads _ r.lays c.in_err-p.was })

pub loop-preserved : goal.loop-preserved
loop-preserved c =
    let e = ap (integer (width_of c.args.w) 0) c.largest_in-hi.ensures in
    let w = next-alike c.args.n c.loop.counter e c.loop.invariant.2 c.loop-test.true in
    let r = c.integer_at.ensures in
    (omega (arith, c.loop-test.true), c.integer_at.auto.key ∙ c.loop.invariant.1, way_next w r.reads _ r.lays c.in_ok-p.was)

pub returns : goal.returns
returns c =
    let l = c.loop in
    let e : c.args.n - l.counter ≡ 0 = omega (arith, c.loop-test.false) in
    let w : OnWay _ _ _ _ _ [] _ _ _ = rw e at l.invariant.2 in
    record { reads = way_end w; lays = end-lays w }
