-- `instance_fields::numbers_at` meets its contract. The loop's invariant: read from here on, the numbers left make all of them read from the start on,
-- and there is room for them (`Way`). Assumes nothing.
use mathlib.Core.Path.{◌≡◌}
use Prim.Native.Nat.{◌-◌, ◌≤◌}
use lib.ListN.{length, replicate}
use Rattle.instance_fields.specs.Reading.{width_of, any_part}
use Rattle.instance_fields.proofs.Way.{OnWay}
use Rattle.instance_fields.proofs.numbers_at.Given as goal

abbrev pub invariant-loop : goal.invariant-loop
invariant-loop l = (l.counter ≤ l.n) × (length l.key ≡ length l.initial.key)
    × OnWay (replicate l.n (any_part (width_of l.w))) l.index l.initial.key l.at l.byte (replicate (l.n - l.counter) (any_part (width_of l.w))) l.key l.p l.k
