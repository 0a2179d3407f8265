-- What the calls of a turn keep, and what is played at the input's end (`PlayedLines`). Assumes nothing.
use Rattle.std.proofs.Common.{◌≡◌, refl, ap, ◌∙◌, arith}
use Rattle.trycalls.proofs.PlayedLines.{playing-none, playing-refilled, playing-line, playing-last}
use Rattle.trycalls.proofs.serve.Goals as goal

pub refill-d-requires : goal.refill-d-requires
refill-d-requires g c = c.start.ensures.ready _ refl

pub loop-d-init : goal.loop-d-init
loop-d-init g c =
    let o = c.start.ensures in
    let r = c.refill-d.ensures in
    record {
      playing = playing-refilled (playing-none o _ _ _ _) r;
      ready = r.ready;
      begun_in = omega (arith, r.same_begun, o.none_begun);
      used_up = r.used_up;
      line_length = refl;
      out_length = refl;
      store_length = refl;
    }

pub loop-d-preserved : goal.loop-d-preserved
loop-d-preserved g c =
    let f = c.refill-d-in-loop-d.ensures in
    let a = c.answer-d in
    let n = c.next_line-d in
    let i = c.loop-d.invariant in
    record {
      playing = playing-refilled (playing-line i.playing n.ensures a.ensures) f;
      ready = f.ready;
      begun_in = omega (arith, f.same_begun, ap (λ d. d.begun) a.ensures.writes.same, n.ensures.begun_in);
      used_up = f.used_up;
      line_length = n.auto.line ∙ i.line_length;
      out_length = a.auto.out ∙ i.out_length;
      store_length = a.auto.store ∙ i.store_length;
    }

pub returns : goal.returns
returns g c =
    let i = c.loop-d.invariant in
    let x : c.loop-d.d.at ≡ c.loop-d.d.end = omega (arith, c.loop-d-test.false, i.ready.at_in) in
    playing-last i.playing c.last_line-d.ensures i.begun_in x (λ o. i.used_up o x) c.answer.ensures
