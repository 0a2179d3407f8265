-- The number of what the call answered. Assumes nothing.
use mathlib.Core.Path.{◌∙◌}
use Rattle.bench.proofs.bench_decide.Goals as goal

pub returns : goal.returns
returns c = c.answer_number.ensures ∙ c.is_access_allowed.ensures.number_is
