use mathlib.Core.Path.{sym, ◌∙◌}
use native.Mathlib.Omega.{arith}
use Rattle.image_judge.proofs.SoundWalks.{sound-start, sound_in_place, sound-length, sound-row, sound-whole, sound-next}
use Rattle.decision_find.proofs.Scans.{scan-start, scan_in_place, first-none, first_found, first-passed}
use Rattle.decision_find.proofs.find_row.Goals as goal

pub loop-i-init : goal.loop-i-init
loop-i-init g c = (λ t s. sound_in_place (sound-start s), λ t p s h. scan_in_place (scan-start _ s))

pub pair_at-requires : goal.pair_at-requires
pair_at-requires g c = sound-length (c.loop-i.invariant.0 _ c.requires.sound) c.loop-i-test.true

pub overflow_add-e : goal.overflow_add-e
overflow_add-e g c =
    omega (arith, sound-row (c.loop-i.invariant.0 _ c.requires.sound) c.loop-i-test.true _ c.pair_at.ensures.number)

pub slice_bounds-test-end : goal.slice_bounds-test-end
slice_bounds-test-end g c = sound-row (c.loop-i.invariant.0 _ c.requires.sound) c.loop-i-test.true _ c.pair_at.ensures.number

pub test-requires : goal.test-requires
test-requires g c = c.requires.each _ (sound-whole (c.loop-i.invariant.0 _ c.requires.sound) c.loop-i-test.true _ c.pair_at.ensures.number)

pub returns-then-test : goal.returns-then-test
returns-then-test g c = record { is = λ t p s h. first_found p (c.loop-i.invariant.1 t p s h) c.loop-i-test.true _ c.pair_at.ensures.number (sym (h _ _ c.test.ensures) ∙ c.if-test.true) }

pub loop-i-preserved : goal.loop-i-preserved
loop-i-preserved g c = (
  λ t s. sound_in_place (sound-next (c.loop-i.invariant.0 t s) c.loop-i-test.true _ c.pair_at.ensures.number),
  λ t p s h. scan_in_place (first-passed p (c.loop-i.invariant.1 t p s h) c.loop-i-test.true _ c.pair_at.ensures.number (sym (h _ _ c.test.ensures) ∙ c.if-test.false)),
)

pub returns : goal.returns
returns g c = record { is = λ t p s h. first-none p (c.loop-i.invariant.1 t p s h) c.loop-i-test.false }
