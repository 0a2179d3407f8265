-- `image::survey` meets its contract. The counts are those of the header, and each test settles what the definition answers
-- (`Surveys`): fewer bytes than the header, a count above its limit, a length that does not fit; past the tests the rows answer.
-- Counts within their limits are so few rows that their lengths, of two bytes each, add up to no great number. Assumes nothing.
use mathlib.Core.Path.{◌≡◌, sym, ap, ◌∙◌}
use mathlib.Core.Bool.{false}
use Prim.Native.Nat.{◌+◌, ◌*◌}
use native.Mathlib.Omega.{arith}
use lib.ListN.{length}
use Rattle.image_layout.specs.Layout.{header, image_length}
use Rattle.image_layout.proofs.Limits.{few}
use Rattle.image.specs.Image.{fits}
use Rattle.image.proofs.Surveys.{counted, surveyed-bad, fits-within, fits-past, few_bytes, front-tiny, front-full, front-torn, front-surveyed}
use Rattle.image.proofs.survey.Goals.{then-w-rows-via-then-w-rows, then-w-rows-via-else-w-rows+then-not-is_fit}
use Rattle.image.proofs.survey.Goals as goal

pub returns-then-w-lt-HEADER : goal.returns-then-w-lt-HEADER
returns-then-w-lt-HEADER c = surveyed-bad _ (front-tiny (fits c.args.whole) c.args.w.now c.if-w-lt-HEADER.true)

pub returns-then-not-limited : goal.returns-then-not-limited
returns-then-not-limited c =
    let k = counted c.args.w.now c.pair_at-c.ensures.number c.pair_at-m.ensures.number c.pair_at-a.ensures.number c.pair_at-v.ensures.number in
    surveyed-bad _ (front-full (fits c.args.whole) k c.if-w-lt-HEADER.false (sym c.limited.ensures ∙ c.if-not-limited.true))

pub sum-requires : goal.sum-requires
sum-requires c =
    let k = counted c.args.w.now c.pair_at-c.ensures.number c.pair_at-m.ensures.number c.pair_at-a.ensures.number c.pair_at-v.ensures.number in
    record { inside = omega arith; bounded = omega (arith, few_bytes k (λ i. omega (arith, c.type_inv.w i)) (sym c.limited.ensures ∙ c.if-not-limited.false)) }

pub overflow_add-rows-else-w-rows : goal.overflow_add-rows-else-w-rows
overflow_add-rows-else-w-rows c =
    let k = counted c.args.w.now c.pair_at-c.ensures.number c.pair_at-m.ensures.number c.pair_at-a.ensures.number c.pair_at-v.ensures.number in
    omega (arith, few_bytes k (λ i. omega (arith, c.type_inv.w i)) (sym c.limited.ensures ∙ c.if-not-limited.false), c.sum.ensures)

pub returns-then-w-rows : goal.returns-then-w-rows
returns-then-w-rows c =
    let k = counted c.args.w.now c.pair_at-c.ensures.number c.pair_at-m.ensures.number c.pair_at-a.ensures.number c.pair_at-v.ensures.number in
    let w = c.args.w.now in
    let rows = c.pair_at-c.result + c.pair_at-m.result + c.pair_at-a.result + c.pair_at-v.result in
    let n : fits c.args.whole (image_length rows w) (length w) ≡ false =
    elim c.then-w-rows.branch [
      | then-w-rows-via-then-w-rows u ↦ fits-past c.args.whole (image_length rows w) (length w) (omega (arith, u.if-w-rows.true))
      | then-w-rows-via-else-w-rows+then-not-is_fit u ↦
          sym (u.is_fit.ensures ∙ ap (λ s. fits c.args.whole (header + 2 * rows + s) (length w)) u.sum.ensures) ∙ u.if-not-is_fit.true
    ] in
    surveyed-bad _ (front-torn (fits c.args.whole) k c.if-w-lt-HEADER.false (sym c.limited.ensures ∙ c.if-not-limited.false) n)

-- it fits

pub judge_rows-requires : goal.judge_rows-requires
judge_rows-requires c =
    let w = c.args.w.now in
    let rows = c.pair_at-c.result + c.pair_at-m.result + c.pair_at-a.result + c.pair_at-v.result in
    let fitting = sym (c.is_fit.ensures ∙ ap (λ s. fits c.args.whole (header + 2 * rows + s) (length w)) c.sum.ensures) ∙ c.if-not-is_fit.false in
    record { few = few _ _ _ _ (sym c.limited.ensures ∙ c.if-not-limited.false); inside = fits-within c.args.whole _ _ fitting }

pub returns : goal.returns
returns c =
    let k = counted c.args.w.now c.pair_at-c.ensures.number c.pair_at-m.ensures.number c.pair_at-a.ensures.number c.pair_at-v.ensures.number in
    let w = c.args.w.now in
    let rows = c.pair_at-c.result + c.pair_at-m.result + c.pair_at-a.result + c.pair_at-v.result in
    let fitting = sym (c.is_fit.ensures ∙ ap (λ s. fits c.args.whole (header + 2 * rows + s) (length w)) c.sum.ensures) ∙ c.if-not-is_fit.false in
    front-surveyed (fits c.args.whole) k c.if-w-lt-HEADER.false (sym c.limited.ensures ∙ c.if-not-limited.false) fitting c.judge_rows.ensures
