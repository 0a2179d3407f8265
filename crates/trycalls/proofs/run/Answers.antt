-- `trycalls::run` meets its contract: a store that was read is sound, so it has its size and the lines are played on it; of tables that are refused the
-- fault is told. Assumes nothing.
use Rattle.std.proofs.Common.{◌≡◌, ◌-◌, true, ℕ, List, [], take, sym, ◌∙◌, arith}
use mathlib.Core.Option.{none-ne-some}
use Rattle.image.specs.Image.{image_fault}
use Rattle.program_io.specs.Outside.{outside}
use Rattle.program_io.specs.Files.{octets_of, TablesFile}
use Rattle.program_io.specs.Desk.{Moved}
use Rattle.program_io.proofs.TakenLines.{still-closed}
use Rattle.request_lines.proofs.Told.{told-front}
use Rattle.trycalls.specs.Runs.{Written}
use Rattle.trycalls.proofs.Sizes.{done_none, faulty-some}
use Rattle.trycalls.proofs.Known.{tells-plays, tells-refusal}
use Rattle.trycalls.proofs.run.Goals as goal

pub returns-in-Ok : goal.returns-in-Ok
returns-in-Ok g c =
    let s = c.serve.ensures in
    let f = c.load-file in
    let w = take (f.result.len - 0) f.result.octets in
    let r = c.read_image.ensures in
    let q = done_none (image_fault w) (sym c.in-Ok.is ∙ r.answer_is) in
    let z : f.result.len - 0 ≡ f.result.len = omega arith in
    let file : TablesFile (octets_of g.F.Read.remaining c.args.tables) w = rw z f.ensures.file in
    let to = outside (g.R.Read.remaining c.serve.new.input) (g.W.Write.contents c.serve.new.output) in
    let written : c.serve.result.writable ≡ true → Written (image_fault w) w s.input s.text =
    λ o. rw q (record { store = _; after = _; holds = r.rows_are c.in-Ok.is; played = s.played o }) in
    record {
      tables = w;
      input = s.input;
      text = s.text;
      file = file;
      moved = s.moved;
      written = written;
      ended = λ o n. s.ended o;
      read_all = λ o n. s.read_all o;
      tells = λ o. tells-plays {to = to} file (s.moved o) (s.read_all o) (written o);
      closed = s.closed;
    }

pub returns-in-Err : goal.returns-in-Err
returns-in-Err g c =
    let w = c.write.ensures in
    let f = c.load-file in
    let i = take (f.result.len - 0) f.result.octets in
    let q = faulty-some (image_fault i) (sym c.in-Err.is ∙ c.read_image.ensures.answer_is) in
    let z : f.result.len - 0 ≡ f.result.len = omega arith in
    let file : TablesFile (octets_of g.F.Read.remaining c.args.tables) i = rw z f.ensures.file in
    let from = outside (g.R.Read.remaining c.args.input.now) (g.W.Write.contents c.args.output.now) in
    let t = c.start.ensures.taken from [] [] in
    let a = c.tell_refusal-end in
    let text = take (a.result - 0) a.new.out in
    let to = outside (g.R.Read.remaining c.args.input.now) (g.W.Write.contents c.write.new.output) in
    let moved : c.write.result.writable ≡ true → Moved from to t.input text = λ o. w.moves o (t.moved (w.stays_closed o)) in
    let written : (xs : List ℕ) → Written (image_fault i) i xs text = λ xs. rw q (told-front 0 _ (omega arith) a.ensures.tells) in
    record {
      tables = i;
      input = t.input;
      text = text;
      file = file;
      moved = moved;
      written = λ o. written t.input;
      ended = λ o n. absurd (none-ne-some _ (sym n ∙ q));
      read_all = λ o n. absurd (none-ne-some _ (sym n ∙ q));
      tells = λ o. tells-refusal {to = to} file (moved o) written;
      closed = still-closed w t.closed;
    }
