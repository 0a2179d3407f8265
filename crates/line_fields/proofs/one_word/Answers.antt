-- `line_fields::one_word` meets its contract: in each case it is known what was read. Assumes nothing.
use Rattle.line_fields.proofs.one_word.Goals as goal

pub returns-in_err-end : goal.returns-in_err-end
returns-in_err-end c = rw (c.from_residual.ensures, c.in_err-end.was)

pub returns : goal.returns
returns c = rw c.in_ok-end.was
