-- The answers of the code, as the definitions name them. Assumes nothing.
use Rattle.std.specs.Prelude.{Result}
use Rattle.answers.specs.declared.Fault.{Fault}

abbrev pub Loaded : Type 0
Loaded = Result (Unit {0}) Fault
