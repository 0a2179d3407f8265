-- What the calls of a turn keep, and what is written at the input's end (`Telling`). Assumes nothing.
use Rattle.std.proofs.Common.{◌≡◌, refl, ap, ◌∙◌, arith}
use Rattle.tryreq.proofs.Telling.{telling-none, telling-line, telling-last, telling-written, telling-refilled}
use Rattle.tryreq.proofs.serve.Goals as goal

pub refill-d-requires : goal.refill-d-requires
refill-d-requires g c = c.start.ensures.ready _ refl

pub loop-d-init : goal.loop-d-init
loop-d-init g c =
    let o = c.start.ensures in
    let r = c.refill-d.ensures in
    record {
      telling = telling-refilled _ (telling-none _ o _ _ _ _) r;
      ready = r.ready;
      begun_in = omega (arith, r.same_begun, o.none_begun);
      room = omega arith;
      used_up = r.used_up;
      line_length = refl;
      out_length = refl;
    }

pub loop-d-preserved : goal.loop-d-preserved
loop-d-preserved g c =
    let f = c.refill-d-in-loop-d.ensures in
    let w = c.write-d.ensures in
    let u = c.due-n.ensures in
    let a = c.answer-used in
    let n = c.next_line-d in
    let i = c.loop-d.invariant in
    record {
      telling = telling-refilled _ (telling-written _ (telling-line _ i.room a.ensures i.telling n.ensures) u w) f;
      ready = f.ready;
      begun_in = omega (arith, f.same_begun, ap (λ d. d.begun) w.same, n.ensures.begun_in);
      room = omega (arith, u.room, a.auto.out, i.out_length);
      used_up = f.used_up;
      line_length = n.auto.line ∙ i.line_length;
      out_length = a.auto.out ∙ i.out_length;
    }

pub returns : goal.returns
returns g c =
    let i = c.loop-d.invariant in
    let x : c.loop-d.d.at ≡ c.loop-d.d.end = omega (arith, c.loop-d-test.false, i.ready.at_in) in
    telling-last _ i.room c.answer-used-2.ensures i.telling c.last_line-d.ensures i.begun_in x (λ o. i.used_up o x) c.write.ensures
