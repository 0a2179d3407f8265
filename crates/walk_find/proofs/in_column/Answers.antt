-- `walk_find::in_column` meets its contract: behind the column an index stands to the parts as it stands to what is left of them; parts above the column are
-- above all that has it (`Stops`). Assumes nothing.
use mathlib.Core.Path.{sym, ap, ◌∙◌}
use mathlib.Core.List.{map}
use Rattle.numbers.specs.Lists.{find}
use Rattle.image_layout.specs.Layout.{rows_in}
use Rattle.decision_find.proofs.Chosen.{chosen-as}
use Rattle.decision_parts.specs.Parts.{rows_of}
use Rattle.edit_rules.specs.TableRows.{row_of}
use Rattle.walk_rows.specs.Reading.{readable_row}
use Rattle.walk_find.proofs.Stops.{left-slice, above-is, column-left, column-above}
use Rattle.walk_find.proofs.in_column.Goals as goal

-- where the call of `past` stands

pub returns-in_default : goal.returns-in_default
returns-in_default c =
    let a = c.args in
    record {
      lies = tt;
      whole = tt;
      is = sym (column-above a.t a.column (rows_of a.w.now a.v) a.parts.now (map (row_of a.t) (rows_in a.w.now a.x))
          (above-is c.past-onward.ensures c.in_default.is));
    }

pub first_row-requires : goal.first_row-requires
first_row-requires c = record { rows = c.rows_above-above.ensures.sound; view = c.requires.view; listed = c.requires.listed }

pub returns : goal.returns
returns c =
    let a = c.args in
    let view = rows_of a.w.now a.v in
    chosen-as c.first_row.ensures
    (ap (find (readable_row a.t a.column view)) c.rows_above-above.ensures.are
    ∙ column-left a.t a.column view a.parts.now (map (row_of a.t) (rows_in a.w.now a.x))
    (left-slice c.past-onward.ensures c.in-Some.is))
