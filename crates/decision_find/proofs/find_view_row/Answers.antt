use mathlib.Core.Path.{refl, sym, ◌∙◌}
use Prim.Native.Nat.{◌<◌}
use native.Mathlib.Omega.{arith}
use Rattle.rows.specs.declared.Table.TheVariants.{View}
use Rattle.image_judge.specs.Faults.{SoundTable}
use Rattle.decision_steps.specs.Bytes.{identifier}
use Rattle.decision_find.proofs.Backwards.{back-length, back-row, back-place, back_whole}
use Rattle.decision_find.proofs.OnePass.{Passing, passing-start, passing-none, passing-next, passing-found}
use Rattle.decision_find.proofs.find_view_row.Goals as goal

pub overflow_mul-g : goal.overflow_mul-g
overflow_mul-g c = omega (arith, c.requires.sound.inside.lengths_within)

pub overflow_add-g : goal.overflow_add-g
overflow_add-g c = omega (arith, c.requires.sound.inside.lengths_within)

pub loop-i-init : goal.loop-i-init
loop-i-init c = λ x p q r s. passing-start _ _ s p q r

pub overflow_sub-g : goal.overflow_sub-g
overflow_sub-g c =
    let sound : SoundTable View c.args.w.now c.args.v.rows = c.requires.sound in
    let passing : let a = c.args in Passing a.view_name.now (identifier a.variable.now) a.w.now a.v.rows c.loop-i.i c.loop-i.g c.loop-i.e = c.loop-i.invariant c.args.v.rows refl refl c.requires.ends sound in
    let more : 0 < c.loop-i.i = omega arith in
    (back-length (passing).walk more (sound).inside).0

pub pair_at-requires : goal.pair_at-requires
pair_at-requires c =
    let sound : SoundTable View c.args.w.now c.args.v.rows = c.requires.sound in
    let passing : let a = c.args in Passing a.view_name.now (identifier a.variable.now) a.w.now a.v.rows c.loop-i.i c.loop-i.g c.loop-i.e = c.loop-i.invariant c.args.v.rows refl refl c.requires.ends sound in
    let more : 0 < c.loop-i.i = omega arith in
    (back-length (passing).walk more (sound).inside).1

pub overflow_sub-o : goal.overflow_sub-o
overflow_sub-o c =
    let sound : SoundTable View c.args.w.now c.args.v.rows = c.requires.sound in
    let passing : let a = c.args in Passing a.view_name.now (identifier a.variable.now) a.w.now a.v.rows c.loop-i.i c.loop-i.g c.loop-i.e = c.loop-i.invariant c.args.v.rows refl refl c.requires.ends sound in
    let more : 0 < c.loop-i.i = omega arith in
    back-row (passing).walk more _ c.pair_at.ensures.number

pub slice_bounds-is_matching-end : goal.slice_bounds-is_matching-end
slice_bounds-is_matching-end c =
    let sound : SoundTable View c.args.w.now c.args.v.rows = c.requires.sound in
    let passing : let a = c.args in Passing a.view_name.now (identifier a.variable.now) a.w.now a.v.rows c.loop-i.i c.loop-i.g c.loop-i.e = c.loop-i.invariant c.args.v.rows refl refl c.requires.ends sound in
    back-place (passing).walk (sound).inside

pub is_matching-requires : goal.is_matching-requires
is_matching-requires c =
    let sound : SoundTable View c.args.w.now c.args.v.rows = c.requires.sound in
    let passing : let a = c.args in Passing a.view_name.now (identifier a.variable.now) a.w.now a.v.rows c.loop-i.i c.loop-i.g c.loop-i.e = c.loop-i.invariant c.args.v.rows refl refl c.requires.ends sound in
    let more : 0 < c.loop-i.i = omega arith in
    back_whole (passing).walk more _ c.pair_at.ensures.number sound

pub returns-then-is_matching : goal.returns-then-is_matching
returns-then-is_matching c =
    let sound : SoundTable View c.args.w.now c.args.v.rows = c.requires.sound in
    let passing : let a = c.args in Passing a.view_name.now (identifier a.variable.now) a.w.now a.v.rows c.loop-i.i c.loop-i.g c.loop-i.e = c.loop-i.invariant c.args.v.rows refl refl c.requires.ends sound in
    let more : 0 < c.loop-i.i = omega arith in
    passing-found _ _ sound passing more _ c.pair_at.ensures.number (sym c.is_matching.ensures ∙ c.if-is_matching.true)

pub loop-i-preserved : goal.loop-i-preserved
loop-i-preserved c =
    let more : 0 < c.loop-i.i = omega arith in
    λ x m q r s.
    passing-next _ _ s (c.loop-i.invariant x m q r s) more _ c.pair_at.ensures.number (sym c.is_matching.ensures ∙ c.if-is_matching.false)

pub returns : goal.returns
returns c =
    let sound : SoundTable View c.args.w.now c.args.v.rows = c.requires.sound in
    let passing : let a = c.args in Passing a.view_name.now (identifier a.variable.now) a.w.now a.v.rows c.loop-i.i c.loop-i.g c.loop-i.e = c.loop-i.invariant c.args.v.rows refl refl c.requires.ends sound in
    passing-none _ _ sound passing c.loop-i-test.false
