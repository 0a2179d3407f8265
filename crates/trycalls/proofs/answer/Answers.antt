-- `trycalls::answer` meets its contract: nothing is written where no line was found, and otherwise what playing it tells (`PlayedLines`). Assumes nothing.
use Rattle.numbers.proofs.Bools.{not-true, not-false}
use Rattle.trycalls.proofs.PlayedLines.{answers-none, answers-found}
use Rattle.trycalls.proofs.answer.Goals as goal

pub returns-then-not-d : goal.returns-then-not-d
returns-then-not-d g c = answers-none _ _ _ (not-true _ c.if-not-d.true)

pub returns : goal.returns
returns g c = answers-found _ _ _ (not-false _ c.if-not-d.false) c.answer_line-end.ensures c.write.ensures
