-- The answers of the code, as the definitions name them. Assumes nothing.
use Rattle.std.specs.Prelude.{ℕ, Option}

abbrev pub Part : Type 0
Part = Option ℕ
