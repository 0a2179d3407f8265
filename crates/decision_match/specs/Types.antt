-- The answers of the code, as the definitions name them. Assumes nothing.
use Rattle.std.specs.Prelude.{ℕ, Result, Option}
use Rattle.answers.specs.declared.Fault.{Fault}

abbrev pub ViewMatch : Type 0
ViewMatch = Result (Option (ℕ × ℕ)) Fault

abbrev pub AccessMatch : Type 0
AccessMatch = Result (Option ℕ) Fault
