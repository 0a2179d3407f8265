-- `tryreq::run` meets its contract: an image whose survey found no fault is sound as it was laid out, and the report on its tables is what is to be written;
-- of another its fault is told. Assumes nothing.
use Rattle.std.proofs.Common.{◌≡◌, ◌-◌, true, [], take, sym, ◌∙◌, arith}
use mathlib.Core.Option.{none-ne-some}
use Rattle.program_io.specs.Outside.{outside}
use Rattle.program_io.specs.Files.{octets_of, TablesFile}
use Rattle.program_io.specs.Desk.{Moved}
use Rattle.program_io.proofs.TakenLines.{still-closed}
use Rattle.request_lines.specs.Report.{written}
use Rattle.request_lines.proofs.Told.{told-front}
use Rattle.request_lines.proofs.Images.{image-laid, image-bad, written-laid, written-bad}
use Rattle.tryreq.proofs.Known.{tells-answers, tells-refusal}
use Rattle.tryreq.proofs.run.Goals as goal

pub serve-requires : goal.serve-requires
serve-requires g c = image-laid _ (sym c.in-Ok.is ∙ c.survey_image.ensures)

pub returns-in-Ok : goal.returns-in-Ok
returns-in-Ok g c =
    let s = c.serve.ensures in
    let f = c.load-file in
    let w = take (f.result.len - 0) f.result.octets in
    let q = sym c.in-Ok.is ∙ c.survey_image.ensures in
    let z : f.result.len - 0 ≡ f.result.len = omega arith in
    let file : TablesFile (octets_of g.F.Read.remaining c.args.tables) w = rw z f.ensures.file in
    let from = outside (g.R.Read.remaining c.args.input.now) (g.W.Write.contents c.args.output.now) in
    let to = outside (g.R.Read.remaining c.serve.new.input) (g.W.Write.contents c.serve.new.output) in
    let moved : c.serve.result.writable ≡ true → Moved from to s.input (written w s.input) =
    λ o. rw (written-laid w s.input q) (s.moved o) in
    record {
      tables = w;
      input = s.input;
      file = file;
      moved = moved;
      ended = λ o n. s.ended o;
      read_all = λ o n. s.read_all o;
      tells = λ o. tells-answers {to = to} file (moved o) (s.read_all o);
      closed = s.closed;
    }

pub returns-in-Err : goal.returns-in-Err
returns-in-Err g c =
    let w = c.write.ensures in
    let f = c.load-file in
    let v = take (f.result.len - 0) f.result.octets in
    let q = sym c.in-Err.is ∙ c.survey_image.ensures in
    let z : f.result.len - 0 ≡ f.result.len = omega arith in
    let file : TablesFile (octets_of g.F.Read.remaining c.args.tables) v = rw z f.ensures.file in
    let from = outside (g.R.Read.remaining c.args.input.now) (g.W.Write.contents c.args.output.now) in
    let t = c.start.ensures.taken from [] [] in
    let told_is = told-front 0 _ (omega arith) c.tell_refusal-end.ensures.tells in
    let to = outside (g.R.Read.remaining c.args.input.now) (g.W.Write.contents c.write.new.output) in
    let moved : c.write.result.writable ≡ true → Moved from to t.input (written v t.input) =
    λ o. rw (written-bad v q t.input ∙ sym told_is) (w.moves o (t.moved (w.stays_closed o))) in
    record {
      tables = v;
      input = t.input;
      file = file;
      moved = moved;
      ended = λ o n. absurd (none-ne-some _ (sym n ∙ image-bad v q));
      read_all = λ o n. absurd (none-ne-some _ (sym n ∙ image-bad v q));
      tells = λ o. tells-refusal {to = to} file (moved o) (λ xs. written-bad v q t.input ∙ sym (written-bad v q xs));
      closed = still-closed w t.closed;
    }
