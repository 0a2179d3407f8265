-- `edits::judge_handed` meets its contract: in each arm it is known what is handed, and with it the fields. Assumes nothing.
use mathlib.Core.Path.{sym, ◌∙◌}
use Rattle.edits.proofs.judge_handed.Goals as goal

pub returns-in-Row : goal.returns-in-Row
returns-in-Row c = rw (sym c.shape_of.ensures ∙ c.in-Row.is) c.judge.ensures

pub returns-in-Key : goal.returns-in-Key
returns-in-Key c = rw (sym c.shape_of.ensures ∙ c.in-Key.is) c.judge_key.ensures
