-- `walk_alike::same_parts` meets its contract: a run is gone on to where all of those before it are the same (`Alikes`). Assumes nothing.
use native.Mathlib.Omega.{arith}
use Rattle.walk_alike.proofs.Alikes.{first_alike, second_alike, third-alike}
use Rattle.walk_alike.proofs.same_parts.Goals as goal

-- where the first run was passed

pub returns-then-first-from : goal.returns-then-first-from
returns-then-first-from c = first_alike c.args.from c.args.quads c.args.key.now c.args.parts.now c.requires c.same_octets-first.result c.same_octets-first.ensures

pub returns-then-second-quads : goal.returns-then-second-quads
returns-then-second-quads c =
    second_alike c.args.from c.args.quads c.args.key.now c.args.parts.now c.requires
    c.same_octets-first.result c.same_octets-first.ensures (omega (arith, c.if-first-from.false)) c.same_quads-second.result c.same_quads-second.ensures

pub returns : goal.returns
returns c =
    third-alike c.args.from c.args.quads c.args.key.now c.args.parts.now c.requires
    c.same_octets-first.result c.same_octets-first.ensures (omega (arith, c.if-first-from.false)) c.same_quads-second.result c.same_quads-second.ensures
    (omega (arith, c.if-second-quads.false)) c.same_octets.result c.same_octets.ensures
