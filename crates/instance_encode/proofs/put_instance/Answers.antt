-- `instance_encode::put_instance` meets its contract: base, column and the runs of the key are laid one behind the other (`Answers`).
-- Assumes nothing.
use mathlib.Core.Path.{sym}
use native.Mathlib.Omega.{arith}
use Rattle.instance_encode.specs.Instances.{base}
use Rattle.instance_encode.specs.Runs.{runs}
use Rattle.instance_encode.proofs.Answers.{instance-laid}
use Rattle.instance_encode.proofs.Bases.{base-taken}
use Rattle.instance_encode.proofs.Runs.{runs-length}
use Rattle.instance_encode.proofs.put_instance.Goals as goal

pub returns : goal.returns
returns c =
    let n = c.base_len-n in
    let a = c.args in
    let v = runs a.q.from a.q.count a.key.now in
    rw (c.put_runs.ensures, c.put_octets.ensures, base-taken a.t n.result c.base_of.result n.ensures.parts c.base_of.ensures)
    (instance-laid n.result a.column (base a.t) v a.out.now (sym n.ensures.parts)
    (omega (arith, c.requires.room, n.ensures.parts, runs-length a.q.from a.q.count a.key.now c.requires.inside)))
