-- `rows::judge_key` meets its contract: a fault of the key's fields is the key's, and past them only bytes over can be wrong.
-- Assumes nothing.
use mathlib.Core.Path.{◌≡◌, ◌∙◌}
use native.Mathlib.Omega.{arith}
use Rattle.rows.specs.Fields.{span}
use Rattle.rows.specs.Rows.{key_fields}
use Rattle.answers.proofs.Results.{handed_on}
use Rattle.rows.proofs.Walks.{fields-bad, fields-end, fields-whole}
use Rattle.rows.proofs.judge_key.Goals as goal

pub returns-in_err-end : goal.returns-in_err-end
returns-in_err-end c =
    let s = c.args in
    handed_on c.in_err-end.was c.from_residual.ensures
    ∙ fields-bad (key_fields s.t) s.key.now 0 c.judge_front.ensures c.in_err-end.was _

pub returns : goal.returns
returns c =
    let q = c.in_ok-end.was in
    let s = c.args in
    let n : span (key_fields s.t) s.key.now ≡ c.in_ok-end.end =
    omega (arith, fields-end (key_fields s.t) s.key.now 0 c.judge_front.ensures q) in
    rw (fields-whole (key_fields s.t) s.key.now 0 c.judge_front.ensures q, n) c.whole.ensures
