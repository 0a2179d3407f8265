-- `image_transfer::write_row` meets its contract: a copy of as many bytes as the part has is all of the part. Assumes nothing.
use mathlib.Core.Path.{◌∙◌}
use Rattle.image_transfer.proofs.Parts.{paste_all}
use Rattle.image_transfer.proofs.write_row.Goals as goal

pub returns : goal.returns
returns c = c.copy_in.ensures ∙ paste_all c.args.row.now c.args.part.now c.requires
