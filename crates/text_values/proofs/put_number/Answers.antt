-- `text_values::put_number` meets its contract: the octet and the digits are put one after the other. Assumes nothing.
use mathlib.Core.List.{[], ◌∷◌}
use Rattle.text_values.specs.Texts.{decimal_text}
use Rattle.text_values.proofs.Puts.{both}
use Rattle.text_values.proofs.put_number.Goals as goal

pub returns : goal.returns
returns c = both (c.args.lead ∷ []) (decimal_text c.args.n) c.requires c.put_octet-next.ensures c.put_decimal.ensures
