-- `text_values::put_text` meets its contract: a copy of the whole text. Assumes nothing.
use Rattle.numbers.proofs.Laid.{laid-paste}
use mathlib.Core.Path.{refl, ◌∙◌}
use Rattle.text_values.proofs.put_text.Goals as goal

pub returns : goal.returns
returns c =
    let s = c.args in
    record { lays = c.copy_in.ensures ∙ laid-paste s.at s.text.now s.out.now; ends = refl }
