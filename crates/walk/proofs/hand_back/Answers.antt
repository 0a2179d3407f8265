-- `walk::hand_back` meets its contract: a row that is met is handed back as such, and where none is, nothing is laid (`Reached`). Assumes nothing.
use Rattle.walk_rules.specs.declared.Walked.TheVariants.{EndOfMibView}
use Rattle.walk.proofs.Reached.{hands-nothing}
use Rattle.walk.proofs.hand_back.Goals as goal

pub hand_row-requires : goal.hand_row-requires
hand_row-requires c = record { row = rw c.in-Some.is at c.requires.met; parts = c.requires.parts; room = c.requires.room }

pub returns-in-Some : goal.returns-in-Some
returns-in-Some c = rw c.in-Some.is c.hand_row.ensures

pub returns-in-None : goal.returns-in-None
returns-in-None c = rw c.in-None.is (hands-nothing EndOfMibView _ _ tt)
