-- The answers of the code, as the definitions name them. Assumes nothing.
use Rattle.std.specs.Prelude.{ℕ, Option}

abbrev pub Shown : Type 0
Shown = Option ℕ
