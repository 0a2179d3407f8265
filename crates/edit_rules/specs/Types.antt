-- The answers of the code, as the definitions name them. Assumes nothing.
use Rattle.std.specs.Prelude.{Result}
use Rattle.answers.specs.declared.Refusal.{Refusal}

abbrev pub Edited : Type 0
Edited = Result (Unit {0}) Refusal
