-- `text_values::put_octet` meets its contract: one store. Assumes nothing.
use Rattle.text_values.proofs.Puts.{puts_one}
use Rattle.text_values.proofs.put_octet.Goals as goal

pub returns : goal.returns
returns c = puts_one c.args.at c.args.x c.args.out.now c.requires
