-- `text_values::put_name` meets its contract: the empty name is `-`, any other its hex. Assumes nothing.
use mathlib.Core.Path.{ap}
use lib.ListN.{length}
use Rattle.text_values.proofs.Parts.{name-none, name-some}
use native.Mathlib.Omega.{arith}
use Rattle.text_values.proofs.put_name.Goals as goal

pub put_octet-requires : goal.put_octet-requires
put_octet-requires c = omega (arith, ap length (name-none c.args.name.now (grind arith)), c.requires)

pub returns-then-is_empty : goal.returns-then-is_empty
returns-then-is_empty c = rw (name-none c.args.name.now (grind arith)) c.put_octet.ensures

pub put_hex-requires : goal.put_hex-requires
put_hex-requires c = rw (name-some c.args.name.now (grind arith)) at c.requires

pub returns : goal.returns
returns c = rw (name-some c.args.name.now (grind arith)) c.put_hex.ensures
