-- `instance_fields::read_fields` meets its contract. The loop's invariant: read from here on, the fields left make all of them read from the start on,
-- and there is room for the longest of them (`Way`). Assumes nothing.
use mathlib.Core.Path.{◌≡◌}
use lib.ListN.{length, drop}
use Rattle.rows.specs.Rows.{key_fields}
use Rattle.instance_fields.proofs.Way.{OnWay}
use Rattle.instance_fields.proofs.read_fields.Given as goal

abbrev pub invariant-loop-i : goal.invariant-loop-i
invariant-loop-i l = (length l.key ≡ length l.initial.key) × OnWay (key_fields l.t) l.index l.initial.key 0 0 (drop l.i (key_fields l.t)) l.key l.at l.byte
