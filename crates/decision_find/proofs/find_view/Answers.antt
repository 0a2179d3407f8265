use mathlib.Core.Path.{refl, sym, ◌∙◌}
use Prim.Native.Nat.{◌<◌}
use native.Mathlib.Omega.{arith}
use Rattle.rows.specs.declared.Table.TheVariants.{View}
use Rattle.image_judge.specs.Faults.{SoundTable}
use Rattle.decision_find.proofs.Backwards.{back-length, back-row, back-place, back_whole}
use Rattle.decision_find.proofs.Views.{looking-start, looking-passed, last_none, last_found}
use Rattle.decision_find.proofs.find_view.Goals as goal

pub overflow_mul-g : goal.overflow_mul-g
overflow_mul-g c = omega (arith, c.requires.inside.lengths_within)

pub overflow_add-g : goal.overflow_add-g
overflow_add-g c = omega (arith, c.requires.inside.lengths_within)

pub end_of-e-requires : goal.end_of-e-requires
end_of-e-requires c = c.requires.inside

pub loop-n-init : goal.loop-n-init
loop-n-init c = looking-start _ _ _ refl refl c.end_of-e.ensures

pub overflow_sub-g : goal.overflow_sub-g
overflow_sub-g c =
    let more : 0 < c.loop-n.n = omega arith in
    let sound : SoundTable View c.args.w.now c.args.x = c.requires in
    (back-length c.loop-n.invariant.walk more (sound).inside).0

pub pair_at-requires : goal.pair_at-requires
pair_at-requires c =
    let more : 0 < c.loop-n.n = omega arith in
    let sound : SoundTable View c.args.w.now c.args.x = c.requires in
    (back-length c.loop-n.invariant.walk more (sound).inside).1

pub overflow_sub-o : goal.overflow_sub-o
overflow_sub-o c =
    let more : 0 < c.loop-n.n = omega arith in
    back-row c.loop-n.invariant.walk more _ c.pair_at.ensures.number

pub slice_bounds-is_in_view-end : goal.slice_bounds-is_in_view-end
slice_bounds-is_in_view-end c =
    let sound : SoundTable View c.args.w.now c.args.x = c.requires in
    back-place c.loop-n.invariant.walk (sound).inside

pub is_in_view-requires : goal.is_in_view-requires
is_in_view-requires c =
    let more : 0 < c.loop-n.n = omega arith in
    let sound : SoundTable View c.args.w.now c.args.x = c.requires in
    back_whole c.loop-n.invariant.walk more _ c.pair_at.ensures.number sound

pub returns-then-is_in_view : goal.returns-then-is_in_view
returns-then-is_in_view c =
    let sound : SoundTable View c.args.w.now c.args.x = c.requires in
    let more : 0 < c.loop-n.n = omega arith in
    last_found _ c.loop-n.invariant sound more _ c.pair_at.ensures.number (sym c.is_in_view.ensures ∙ c.if-is_in_view.true)

pub loop-n-preserved : goal.loop-n-preserved
loop-n-preserved c =
    let more : 0 < c.loop-n.n = omega arith in
    looking-passed c.loop-n.invariant more _ c.pair_at.ensures.number (sym c.is_in_view.ensures ∙ c.if-is_in_view.false)

pub returns : goal.returns
returns c =
    let sound : SoundTable View c.args.w.now c.args.x = c.requires in
    last_none _ c.loop-n.invariant sound c.loop-n-test.false
