-- `text_rows::put_table` meets its contract: in each arm the table is known, and with it the word. Assumes nothing.
use Rattle.text_rows.proofs.put_table.Goals as goal

pub put_text-requires : goal.put_text-requires
put_text-requires c = rw c.in-Context.is at c.requires

pub put_text-requires-in-Mapping : goal.put_text-requires-in-Mapping
put_text-requires-in-Mapping c = rw c.in-Mapping.is at c.requires

pub put_text-requires-in-Access : goal.put_text-requires-in-Access
put_text-requires-in-Access c = rw c.in-Access.is at c.requires

pub put_text-requires-in-View : goal.put_text-requires-in-View
put_text-requires-in-View c = rw c.in-View.is at c.requires

pub returns-in-Context : goal.returns-in-Context
returns-in-Context c = rw c.in-Context.is c.put_text.ensures

pub returns-in-Mapping : goal.returns-in-Mapping
returns-in-Mapping c = rw c.in-Mapping.is c.put_text-in-Mapping.ensures

pub returns-in-Access : goal.returns-in-Access
returns-in-Access c = rw c.in-Access.is c.put_text-in-Access.ensures

pub returns-in-View : goal.returns-in-View
returns-in-View c = rw c.in-View.is c.put_text-in-View.ensures
