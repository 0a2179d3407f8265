-- `instance_encode::put_runs` meets its contract: the three runs are laid one behind the other (`Runs`). Assumes nothing.
use Prim.Native.Nat.{◌-◌}
use native.Mathlib.Omega.{arith}
use lib.ListN.{length, drop, length-drop}
use lib.Seq.{take_all}
use Rattle.instance_encode.proofs.Runs.{runs-laid}
use Rattle.instance_encode.proofs.put_runs.Goals as goal

pub returns : goal.returns
returns c =
    let a = c.args in
    let k = a.key.now in
    let rest = take_all (length k - a.q.from) (drop a.q.from k) (omega (arith, length-drop a.q.from k)) in
    rw (c.put_octets-2.ensures, c.put_numbers.ensures, rest, c.put_octets.ensures)
    (runs-laid a.q.from a.q.count k c.requires.inside a.at a.out.now c.requires.room)
