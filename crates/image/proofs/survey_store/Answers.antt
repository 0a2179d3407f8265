-- `image::survey_store` meets its contract: of another length than a store's it is not sound, and of that length it is sound exactly where
-- nothing is wrong with the image at its front (`Surveys`). Assumes nothing.
use Rattle.std.proofs.Common.{rules}
use Rattle.image.proofs.Surveys.{surveyed-bad, store_other, store-surveyed, mapped}
use Rattle.image.proofs.survey_store.Goals as goal

pub returns-then-w-ne-ROOM : goal.returns-then-w-ne-ROOM
returns-then-w-ne-ROOM c = surveyed-bad _ (store_other c.args.w.now c.if-w-ne-ROOM.true)

pub returns : goal.returns
returns c = store-surveyed c.args.w.now c.if-w-ne-ROOM.false c.survey.ensures (mapped _ _ _ c.map_err.ensures.cases (λ f g p. search rules))
