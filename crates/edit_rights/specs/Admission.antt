-- What stands between a legal edit by a principal and its row: 12, then the tables' refusal. Assumes nothing.
use Rattle.std.specs.Prelude.{Bool, true, false}
use Rattle.std.specs.Prelude.{Ok, Err}
use Rattle.answers.specs.declared.Refusal.TheVariants.{Barred, Faulty}
use Rattle.answers.specs.declared.Decision.{Decision}
use Rattle.answers.specs.declared.Decision.TheVariants.{Allowed, Refused}
use Rattle.answers.specs.declared.Fault.TheVariants.{ContextTable}
use Rattle.edit_rules.specs.Types.{Edited}

-- of a context row, and of the judgement
abbrev pub admission : Bool → Decision → Edited
admission true d = Err (Faulty ContextTable)
admission false Allowed = Ok tt
admission false (Refused c) = Err (Barred c)
