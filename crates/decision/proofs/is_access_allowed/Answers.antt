-- `decision::is_access_allowed` meets its contract. A store that is not sound has no layout, and is 6: that is found by the laws `unsound`, which the
-- function names. Otherwise the request is answered over the tables of the store (`Answers`). Assumes nothing.
use Rattle.std.proofs.Common.{rules}
use Rattle.image.proofs.Surveys.{store-sound-layout}
use Rattle.decision.proofs.Answers.{answer-laid}
use Rattle.decision.proofs.is_access_allowed.Goals as goal

pub answer_request-requires : goal.answer_request-requires
answer_request-requires c = store-sound-layout c.args.store.now (search rules)

pub returns : goal.returns
returns c = answer-laid c.args.store.now _ c.answer_request.ensures (search rules)
