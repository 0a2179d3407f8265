-- `rows::large` meets its contract: each return is what the definition answers once the tests before it are known.
-- The number is what `quad_at` reads at the place. Assumes nothing.
use mathlib.Core.Path.{sym, ◌∙◌}
use native.Mathlib.Omega.{arith}
use Rattle.numbers.specs.BigEndian.{quad}
use Rattle.rows.proofs.Steps.{integer-whole}
use Rattle.rows.proofs.large.Goals as goal

pub returns : goal.returns
returns c =
    let s = c.args in
    integer-whole s.row.now s.at quad s.lo s.hi _ c.quad_at-n.ensures.value (omega arith) (sym c.within.ensures ∙ c.if-not-within.false)
