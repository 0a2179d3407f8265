-- `call_explains::tell_explanation` meets its contract: what the call handed back lies whole in the rooms, and what is told of it is the text of the
-- explanation (`Shown`). Assumes nothing.
use borrow.Author.Rules.{rules}
use Rattle.rows.specs.declared.Table.TheVariants.{Mapping, Access, View}
use Rattle.rows.specs.Rows.{mapping_fields, access_fields, view_fields}
use Rattle.call_explains.proofs.Shown.{shown-whole, handed-text}
use Rattle.call_explains.proofs.tell_explanation.Goals as goal

pub tell_handed-requires : goal.tell_handed-requires
tell_handed-requires c = let e = c.explain-explained.ensures in record { mapping = shown-whole Mapping mapping_fields e.mapping_is; access = shown-whole Access access_fields e.access_is; view = shown-whole View view_fields e.view_is; room = search rules }

pub returns : goal.returns
returns c = rw (← handed-text c.explain-explained.ensures) c.tell_handed.ensures
