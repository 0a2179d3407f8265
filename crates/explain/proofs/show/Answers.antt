-- `explain::show` meets its contract: a row found lies within the image and is no longer than the room, so that its bytes are copied and counted; none
-- leaves the room as found (`Shows`). Assumes nothing.
use mathlib.Core.Path.{◌∙◌}
use native.Mathlib.Omega.{arith}
use Rattle.numbers.proofs.Laid.{laid-paste}
use Rattle.image_layout.proofs.Walks.{piece}
use Rattle.explain.proofs.Shows.{found-lies, found-short, shown-row, lent_row, shown-none, lent_none}
use Rattle.explain.proofs.show.Goals as goal

pub returns-in_default : goal.returns-in_default
returns-in_default c =
    let a = c.args in
    let e = c.in_default.is in
    record { counts = shown-none a.w.now a.room.now e; lays = lent_none a.w.now a.room.now e }

pub copy_in-requires : goal.copy_in-requires
copy_in-requires c = omega (arith, found-short c.args.w.now c.args.room.now c.in-Some.is c.requires.room)

pub returns : goal.returns
returns c =
    let a = c.args in
    record {
      counts = shown-row a.w.now a.room.now c.in-Some.is c.requires.lies;
      lays = lent_row a.w.now a.room.now c.in-Some.is
          (c.copy_in.ensures ∙ laid-paste 0 (piece a.w.now c.in-Some.at c.in-Some.end) a.room.now);
    }

pub slice_bounds-copy_in-start : goal.slice_bounds-copy_in-start
slice_bounds-copy_in-start c = (found-lies c.args.w.now c.args.room.now c.in-Some.is c.requires.lies).starts

pub slice_bounds-copy_in-end : goal.slice_bounds-copy_in-end
slice_bounds-copy_in-end c = (found-lies c.args.w.now c.args.room.now c.in-Some.is c.requires.lies).ends
