-- An instance and its key lie in the lent rooms, and are told; all else is told by its number. Assumes nothing.
use Prim.Native.Nat.{◌≤◌}
use native.Mathlib.Omega.{arith}
use lib.ListN.{length}
use Rattle.call_answers.proofs.Room.{decimal-short}
use Rattle.call_walks.proofs.Inside.{next-inside}
use Rattle.call_walks.proofs.Walks.{next-legal, refused_one, tells-next, tells-refusal}
use Rattle.call_walks.proofs.tell_walk.Goals as goal

-- the instance and its key lie in the lent rooms

pub put_decimal-requires : goal.put_decimal-requires
put_decimal-requires c = omega (arith, decimal-short c.walked_number.result, c.requires)

pub returns-in_default : goal.returns-in_default
returns-in_default c =
    tells-refusal c.walk-walked.ensures.walks (refused_one c.walk-walked.result c.in_default.not-Next) c.walked_number.ensures
    (record { puts = c.put_decimal.ensures; short = decimal-short c.walked_number.result })

pub slice_bounds-tell_next-end : goal.slice_bounds-tell_next-end
slice_bounds-tell_next-end c =
    let inside : (c.in-Next.n ≤ length c.walk-walked.new.parts) × (c.in-Next.m ≤ length c.walk-walked.new.key) = next-inside c.walk-walked.ensures.walks c.in-Next.is in
    (inside).1

pub tell_next-requires : goal.tell_next-requires
tell_next-requires c =
    let inside : (c.in-Next.n ≤ length c.walk-walked.new.parts) × (c.in-Next.m ≤ length c.walk-walked.new.key) = next-inside c.walk-walked.ensures.walks c.in-Next.is in
    record { inside = (inside).0; legal = next-legal _ c.walk-walked.new.key c.walk-walked.ensures.legal c.in-Next.is; room = c.requires }

pub returns : goal.returns
returns c = tells-next c.walk-walked.ensures.walks c.in-Next.is c.tell_next.ensures
