-- The answers of the code, as the definitions name them. Assumes nothing.
use Rattle.std.specs.Prelude.{ℕ, Option}
use Rattle.rows.specs.declared.Table.{Table}

abbrev pub Met : Type 0
Met = Option (Table × ℕ × ℕ × ℕ)
