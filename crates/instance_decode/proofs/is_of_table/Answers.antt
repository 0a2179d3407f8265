-- `instance_decode::is_of_table` meets its contract: the front of the padded base is the base (`Bases`). Assumes nothing.
use mathlib.Core.Path.{ap, ◌∙◌}
use Rattle.numbers.specs.Order.{begins}
use Rattle.instance_encode.proofs.Bases.{base-taken}
use Rattle.instance_decode.proofs.is_of_table.Goals as goal

pub returns : goal.returns
returns c =
    let n = c.base_len-n in
    let f = c.base_of in
    c.begins_with.ensures ∙ ap (λ p. begins p c.args.oid.now) (base-taken c.args.t n.result f.result n.ensures.parts f.ensures)
