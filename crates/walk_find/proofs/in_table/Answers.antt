-- `walk_find::in_table` meets its contract: the front that is passed is the table's base, and an identifier above it is above all of the table's instances
-- (`Stops`). Assumes nothing.
use mathlib.Core.Path.{sym}
use mathlib.Core.List.{map}
use native.Mathlib.Nat.{sub-zero}
use Rattle.image_layout.specs.Layout.{rows_in}
use Rattle.decision_parts.specs.Parts.{rows_of}
use Rattle.instance_encode.specs.Instances.{base, columns}
use Rattle.instance_encode.proofs.Bases.{base-taken}
use Rattle.edit_rules.specs.TableRows.{row_of}
use Rattle.walk_compare.specs.Onward.{GoesOn}
use Rattle.walk_find.proofs.Stops.{left-place, left_is, above-is, table-above}
use Rattle.walk_find.proofs.in_table.Goals as goal

-- the front is the base

pub returns-in_default : goal.returns-in_default
returns-in_default c =
    let based : GoesOn c.args.identifier.now (base c.args.t) c.past-onward.result = let n = c.base_len-n in let f = c.base_of-front in rw (sub-zero n.result, base-taken c.args.t n.result f.result n.ensures.parts f.ensures) at c.past-onward.ensures in
    let a = c.args in
    record {
      row = tt;
      is = sym (table-above a.t (rows_of a.w.now a.v) a.identifier.now (map (row_of a.t) (rows_in a.w.now a.x))
          (above-is based c.in_default.is) (columns a.t));
    }

pub in_columns-requires : goal.in_columns-requires
in_columns-requires c =
    let based : GoesOn c.args.identifier.now (base c.args.t) c.past-onward.result = let n = c.base_len-n in let f = c.base_of-front in rw (sub-zero n.result, base-taken c.args.t n.result f.result n.ensures.parts f.ensures) at c.past-onward.ensures in
    let e = c.in-Some.is in
    record { rows = c.requires.rows; view = c.requires.view; left = record { place = left-place based e; is = sym (left_is based e) } }
