-- The answers of the code, as the definitions name them. Assumes nothing.
use Rattle.std.specs.Prelude.{ℕ, Result}
use Rattle.answers.specs.declared.Fault.{Fault}

abbrev pub Step : Type 0
Step = Result ℕ Fault
