-- `edit_rights::admit` meets its contract: past the test of the table, each return is a case of `admission`, once the judgement before it is known. Assumes
-- nothing.
use mathlib.Core.Path.{sym, ◌∙◌}
use Rattle.edit_rights.proofs.admit.Goals as goal

pub returns-in-Allowed : goal.returns-in-Allowed
returns-in-Allowed c = rw (sym c.is_context.ensures ∙ c.if-is_context.false, sym c.judge_by.ensures ∙ c.in-Allowed.is)

pub returns-in-Refused : goal.returns-in-Refused
returns-in-Refused c = rw (sym c.is_context.ensures ∙ c.if-is_context.false, sym c.judge_by.ensures ∙ c.in-Refused.is)
