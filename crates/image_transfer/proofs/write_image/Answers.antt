-- `image_transfer::write_image` meets its contract. A sound store's rows are one extent behind the counts and lengths, and the image ends where they
-- do: with room for that much, the counts and lengths are copied, each row is written behind them, and what then stands at the buffer's front is
-- the image of the store's tables (`Promises`). Assumes nothing.
use mathlib.Core.Path.{◌≡◌, refl, sym, ◌∙◌}
use mathlib.Core.Bool.{true}
use native.Mathlib.Omega.{arith}
use Rattle.std.proofs.Common.{rules}
use Rattle.answers.proofs.Results.{refusal}
use Rattle.image.specs.Store.{is_sound}
use Rattle.image_layout.specs.Layout.{layout_of}
use Rattle.image_transfer.specs.Transfer.{all_rows}
use Rattle.image_transfer.proofs.Parts.{take-copied}
use Rattle.image_transfer.proofs.Promises.{laid-few, laid-sound, laid-is, all_laid, writes-unsound, writes_short, writes-done}
use Rattle.image_transfer.proofs.write_image.Goals as goal

pub returns-in_err-survey_store : goal.returns-in_err-survey_store
returns-in_err-survey_store c =
    rw (refusal c.from_residual.ensures) (writes-unsound c.args.store.now c.args.out.now (sym c.in_err-survey_store.was ∙ c.survey_store.ensures))

pub all_rows-all-requires : goal.all_rows-all-requires
all_rows-all-requires c = search (rules, laid-few)

pub end_of-end-requires : goal.end_of-end-requires
end_of-end-requires c =
    let sound : is_sound c.args.store.now ≡ true = search (rules, laid-sound) in
    let all-is : c.all_rows-all.result ≡ all_rows (layout_of c.args.store.now) = grind (arith, laid-is) in
    (all_laid c.args.store.now sound refl all-is).inside

pub returns-then-out-end : goal.returns-then-out-end
returns-then-out-end c =
    let sound : is_sound c.args.store.now ≡ true = search (rules, laid-sound) in
    let all-is : c.all_rows-all.result ≡ all_rows (layout_of c.args.store.now) = grind (arith, laid-is) in
    let all = all_laid c.args.store.now sound refl all-is in
    writes_short c.args.store.now c.args.out.now (λ i. search rules) sound all c.end_of-end.ensures c.if-out-end.true

pub slice_bounds-copy_in-end : goal.slice_bounds-copy_in-end
slice_bounds-copy_in-end c =
    let sound : is_sound c.args.store.now ≡ true = search (rules, laid-sound) in
    let all-is : c.all_rows-all.result ≡ all_rows (layout_of c.args.store.now) = grind (arith, laid-is) in
    omega (arith, (all_laid c.args.store.now sound refl all-is).inside.rows_within)

pub write_rows-requires : goal.write_rows-requires
write_rows-requires c =
    let sound : is_sound c.args.store.now ≡ true = search (rules, laid-sound) in
    let all-is : c.all_rows-all.result ≡ all_rows (layout_of c.args.store.now) = grind (arith, laid-is) in
    let all = all_laid c.args.store.now sound refl all-is in
    record {
      inside = all.inside;
      end_in = omega (arith, c.if-out-end.false, c.end_of-end.ensures, c.copy_in.auto.w);
      ahead_is = take-copied c.args.store.now c.args.out.now c.all_rows-all.result.rows (omega (arith, all.inside.rows_within)) c.copy_in.ensures;
    }

pub returns : goal.returns
returns c =
    let sound : is_sound c.args.store.now ≡ true = search (rules, laid-sound) in
    let all-is : c.all_rows-all.result ≡ all_rows (layout_of c.args.store.now) = grind (arith, laid-is) in
    let all = all_laid c.args.store.now sound refl all-is in
    writes-done c.args.store.now c.args.out.now (λ i. search rules) sound all c.end_of-end.ensures c.if-out-end.false
    c.copy_in.ensures c.write_rows.ensures
