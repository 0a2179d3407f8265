-- The answers of the code, as the definitions name them. Assumes nothing.
use Rattle.std.specs.Prelude.{ℕ, Option}

abbrev pub Found : Type 0
Found = Option (ℕ × ℕ)
