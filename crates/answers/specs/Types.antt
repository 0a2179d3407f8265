-- The answers of the code, as the definitions name them. Assumes nothing.
use Rattle.std.specs.Prelude.{ℕ, Result}
use Rattle.answers.specs.declared.Decision.{Decision}
use Rattle.answers.specs.declared.Fault.{Fault}

abbrev pub Answer : Type 0
Answer = Result Decision Fault

abbrev pub Written : Type 0
Written = Result ℕ Fault

abbrev pub Counted : Type 0
Counted = Result (Unit {0}) Fault
