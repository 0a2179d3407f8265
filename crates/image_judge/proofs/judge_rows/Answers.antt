-- `image_judge::judge_rows` meets its contract. The extent that the code makes for each table is the layout's: where a table's rows
-- are judged without fault, the next table's begin where they end. So a table's fault, with none in the tables before it, is the fault
-- of the rows (`Tables`), and past the last table there is none. Each table lies within w, since all rows do. Assumes nothing.
use mathlib.Core.Path.{refl, ap, ◌∙◌}
use Rattle.std.specs.Prelude.{Ok}
use Rattle.answers.proofs.Results.{refusal}
use Rattle.image_layout.specs.Layout.{laid_out}
use Rattle.image_layout.proofs.Layouts.{laid-within, laid-tables}
use Rattle.image_judge.proofs.Tables.{begins, onward, next_place, stops, lays}
use Rattle.image_judge.proofs.judge_rows.Goals as goal

pub judge_table-requires : goal.judge_table-requires
unfolding laid_out
judge_table-requires c = let s = c.args in (laid-within s.w.now s.c s.m s.a s.v c.requires.inside).contexts_in

pub returns-in_err-e : goal.returns-in_err-e
unfolding laid_out
returns-in_err-e c =
    let s = c.args in
    let first = begins s.w.now (laid_out s.w.now s.c s.m s.a s.v) refl c.judge_table.ensures in
    refusal c.from_residual.ensures ∙ stops first c.in_err-e.was

pub judge_table-requires-2 : goal.judge_table-requires-2
unfolding laid_out
judge_table-requires-2 c =
    let s = c.args in
    let first = begins s.w.now (laid_out s.w.now s.c s.m s.a s.v) refl c.judge_table.ensures in
    rw (next_place first c.in_ok-e.was c.following-mappings.ensures refl) (laid-within s.w.now s.c s.m s.a s.v c.requires.inside).mappings_in

pub returns-in_err-e-2 : goal.returns-in_err-e-2
unfolding laid_out
returns-in_err-e-2 c =
    let s = c.args in
    let first = begins s.w.now (laid_out s.w.now s.c s.m s.a s.v) refl c.judge_table.ensures in
    let second = onward first c.in_ok-e.was c.following-mappings.ensures refl c.judge_table-2.ensures in
    refusal c.from_residual-in_err-e-2.ensures ∙ stops second c.in_err-e-2.was

pub judge_table-requires-3 : goal.judge_table-requires-3
unfolding laid_out
judge_table-requires-3 c =
    let s = c.args in
    let first = begins s.w.now (laid_out s.w.now s.c s.m s.a s.v) refl c.judge_table.ensures in
    let second = onward first c.in_ok-e.was c.following-mappings.ensures refl c.judge_table-2.ensures in
    rw (next_place second c.in_ok-e-2.was c.following-accesses.ensures refl) (laid-within s.w.now s.c s.m s.a s.v c.requires.inside).accesses_in

pub returns-in_err-e-3 : goal.returns-in_err-e-3
unfolding laid_out
returns-in_err-e-3 c =
    let s = c.args in
    let first = begins s.w.now (laid_out s.w.now s.c s.m s.a s.v) refl c.judge_table.ensures in
    let second = onward first c.in_ok-e.was c.following-mappings.ensures refl c.judge_table-2.ensures in
    let third = onward second c.in_ok-e-2.was c.following-accesses.ensures refl c.judge_table-3.ensures in
    refusal c.from_residual-in_err-e-3.ensures ∙ stops third c.in_err-e-3.was

pub judge_table-requires-4 : goal.judge_table-requires-4
unfolding laid_out
judge_table-requires-4 c =
    let s = c.args in
    let first = begins s.w.now (laid_out s.w.now s.c s.m s.a s.v) refl c.judge_table.ensures in
    let second = onward first c.in_ok-e.was c.following-mappings.ensures refl c.judge_table-2.ensures in
    let third = onward second c.in_ok-e-2.was c.following-accesses.ensures refl c.judge_table-3.ensures in
    rw (next_place third c.in_ok-e-3.was c.following-views.ensures refl) (laid-within s.w.now s.c s.m s.a s.v c.requires.inside).views_in

pub returns-in_err-judge_table : goal.returns-in_err-judge_table
unfolding laid_out
returns-in_err-judge_table c =
    let s = c.args in
    let first = begins s.w.now (laid_out s.w.now s.c s.m s.a s.v) refl c.judge_table.ensures in
    let second = onward first c.in_ok-e.was c.following-mappings.ensures refl c.judge_table-2.ensures in
    let third = onward second c.in_ok-e-2.was c.following-accesses.ensures refl c.judge_table-3.ensures in
    let fourth = onward third c.in_ok-e-3.was c.following-views.ensures refl c.judge_table-4.ensures in
    refusal c.from_residual-in_err-judge_table.ensures ∙ stops fourth c.in_err-judge_table.was

pub returns : goal.returns
unfolding laid_out
returns c =
    let s = c.args in
    let first = begins s.w.now (laid_out s.w.now s.c s.m s.a s.v) refl c.judge_table.ensures in
    let second = onward first c.in_ok-e.was c.following-mappings.ensures refl c.judge_table-2.ensures in
    let third = onward second c.in_ok-e-2.was c.following-accesses.ensures refl c.judge_table-3.ensures in
    let fourth = onward third c.in_ok-e-3.was c.following-views.ensures refl c.judge_table-4.ensures in
    ap Ok (laid-tables _ refl second.place third.place fourth.place) ∙ lays fourth c.in_ok-judge_table.was
