-- `decision_views::mask_bit` meets its contract: a bit past the mask is 1, and one within is taken by a shift and `& 1`. Assumes nothing.
use Rattle.decision_steps.proofs.Masks.{bit-missing, bit-taken}
use Rattle.decision_views.proofs.mask_bit.Goals as goal

pub returns-then-mask-k : goal.returns-then-mask-k
returns-then-mask-k c = bit-missing _ _ c.if-mask-k.true

pub returns : goal.returns
returns c = bit-taken _ _ c.if-mask-k.false
