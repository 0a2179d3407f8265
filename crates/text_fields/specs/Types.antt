-- The answers of the code, as the definitions name them. Assumes nothing.
use Rattle.std.specs.Prelude.{ℕ, Option}

abbrev pub Placed : Type 0
Placed = Option (ℕ × ℕ)
