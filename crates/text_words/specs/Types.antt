-- The answers of the code, as the definitions name them. Assumes nothing.
use Rattle.std.specs.Prelude.{ℕ, Option}

abbrev pub Number : Type 0
Number = Option ℕ

abbrev pub Word : Type 0
Word = Option ℕ

abbrev pub Filled : Type 0
Filled = Option ℕ
