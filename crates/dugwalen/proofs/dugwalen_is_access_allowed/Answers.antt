-- `dugwalen::dugwalen_is_access_allowed` meets its contract: `survey_image` gives the image's fault, or its layout, whose tables are sound (`CCall`).
-- Assumes nothing.
use mathlib.Core.Path.{◌≡◌, sym, ◌∙◌}
use Rattle.std.specs.Prelude.{Ok}
use Rattle.image_layout.specs.Layout.{layout_of}
use Rattle.image.specs.Image.{image_fault}
use Rattle.image_judge.specs.Faults.{surveyed}
use Rattle.dugwalen.proofs.CCall.{layout-sound, image-refused, image-laid}
use Rattle.dugwalen.proofs.dugwalen_is_access_allowed.Goals as goal

-- the image's layout

pub on_tables-requires : goal.on_tables-requires
on_tables-requires c =
    let laid : let w = c.args.image.now in Ok c.in-Ok.l ≡ surveyed (image_fault w) (layout_of w) = sym c.in-Ok.is ∙ c.survey_image.ensures in
    layout-sound _ laid

pub returns-in-Err : goal.returns-in-Err
returns-in-Err c =
    let a = c.args in
    c.fault_number.ensures
    ∙ image-refused a.security_model a.security_name.now a.security_level a.view_type a.context_name.now a.variable_name.now
    a.image.now (sym c.in-Err.is ∙ c.survey_image.ensures)

pub returns-in-Ok : goal.returns-in-Ok
returns-in-Ok c =
    let laid : let w = c.args.image.now in Ok c.in-Ok.l ≡ surveyed (image_fault w) (layout_of w) = sym c.in-Ok.is ∙ c.survey_image.ensures in
    let a = c.args in
    c.on_tables.ensures
    ∙ image-laid a.security_model a.security_name.now a.security_level a.view_type a.context_name.now a.variable_name.now
    a.image.now laid
