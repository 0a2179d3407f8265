use Rattle.std.proofs.Common.{◌≡◌, refl, ap, ◌∙◌, arith, length, drop, rules, take_all}
use Rattle.std.specs.Slice.Iter.{chunks_exact_rest}
use Rattle.decision_steps.specs.Bytes.{identifier}
use Rattle.decision_steps.proofs.Identifiers.{identifier-none}
use Rattle.text_values.proofs.Puts.{start, done}
use Rattle.text_values.proofs.Parts.{dotted-none, first-room, rest-room, dotted-put, dots-room, dots-step, dots-end, quad-first, quad-cut}
use Rattle.text_values.proofs.put_dotted_quads.Goals as goal

pub put_octet-requires : goal.put_octet-requires
put_octet-requires c =
    let e = ap length (identifier-none c.args.bytes.now c.in_default.ensures.cases) in
    omega (arith, ap length (dotted-none (identifier c.args.bytes.now) e), c.requires)

pub returns-in_default : goal.returns-in_default
returns-in_default c =
    let v = c.args.bytes.now in
    rw (dotted-none (identifier v) (ap length (identifier-none v c.in_default.ensures.cases))) c.put_octet.ensures

pub put_decimal-o-requires : goal.put_decimal-o-requires
put_decimal-o-requires c =
    let k = c.in-Some.ensures in
    first-room c.args.at c.args.out.now (quad-first c.args.bytes.now _ k.cases.0 (k.variant.0 refl)) c.requires c.quad_at.ensures.value

pub loop-quad-init : goal.loop-quad-init
loop-quad-init c =
    let k = c.in-Some.ensures in
    let q = c.chunks_exact-quad-items.ensures in
    let g = c.into_iter-quad-iterator.ensures.into_iter_gives in
    let all : chunks_exact_rest c.chunks_exact-quad-items.result ≡ drop 4 c.args.bytes.now = search (rules, take_all) in
    rw (g, all)
    (q.size, start (rest-room c.args.at c.args.out.now (quad-first c.args.bytes.now _ k.cases.0 (k.variant.0 refl)) c.requires c.quad_at.ensures.value c.put_decimal-o.ensures))

-- in a turn the four bytes that were cut are the next

pub put_number-o-requires : goal.put_number-o-requires
put_number-o-requires c =
    let k = c.in-Some-quad.ensures.steps in
    dots-room (quad-cut _ _ _ k.1.0 (k.1.1 ∙ c.loop-quad.invariant.0)) c.loop-quad.invariant.1 c.quad_at-in-loop-quad.ensures.value

pub loop-quad-preserved : goal.loop-quad-preserved
loop-quad-preserved c =
    let k = c.in-Some-quad.ensures.steps in
    (k.0 ∙ c.loop-quad.invariant.0, dots-step (quad-cut _ _ _ k.1.0 (k.1.1 ∙ c.loop-quad.invariant.0)) c.loop-quad.invariant.1 c.quad_at-in-loop-quad.ensures.value c.put_number-o.ensures)

pub returns : goal.returns
returns c =
    let v = c.args.bytes.now in
    let k = c.in-Some.ensures in
    let e = identifier-none (chunks_exact_rest c.loop-quad.quad-iterator) (omega (arith, c.in-None.ensures.steps, c.loop-quad.invariant.0)) in
    dotted-put c.args.at c.args.out.now (quad-first v _ k.cases.0 (k.variant.0 refl)) c.requires c.quad_at.ensures.value c.put_decimal-o.ensures
    (done (rw (dots-end _ e) at c.loop-quad.invariant.1))
