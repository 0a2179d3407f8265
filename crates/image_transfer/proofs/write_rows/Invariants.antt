-- `image_transfer::write_rows` meets its contract. The loop walks over the extent's rows; up to the next row the buffer has the store's bytes, and
-- from there on it is as found. A row written into its own part puts that place behind the row. Assumes nothing.
use mathlib.Core.Path.{◌≡◌}
use Prim.Native.Nat.{◌+◌, ◌*◌}
use lib.ListN.{length, take}
use Rattle.image_layout.proofs.Walks.{Walk}
use Rattle.image_transfer.specs.Transfer.{overlaid}
use Rattle.image_transfer.proofs.write_rows.Given as goal

abbrev pub invariant-loop-i : goal.invariant-loop-i
invariant-loop-i l = Walk l.store l.x l.i (l.x.lengths + 2 * l.i) l.o × (l.out ≡ overlaid (take l.o l.store) l.initial.out) × (length l.out ≡ length l.initial.out)
