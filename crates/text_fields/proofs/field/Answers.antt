-- `text_fields::field` meets its contract: in each arm the form is known, and so is its field. Assumes nothing.
use Rattle.text_fields.proofs.field.Goals as goal

pub returns-in-Name : goal.returns-in-Name
returns-in-Name c = rw c.in-Name.is c.name.ensures

pub returns-in-Subtree : goal.returns-in-Subtree
returns-in-Subtree c = rw c.in-Subtree.is c.subtree.ensures

pub returns-in-Large : goal.returns-in-Large
returns-in-Large c = rw c.in-Large.is c.large.ensures

pub returns-in-Small : goal.returns-in-Small
returns-in-Small c = rw c.in-Small.is c.small.ensures
