-- The answers of the code, as the definitions name them. Assumes nothing.
use Rattle.std.specs.Prelude.{ℕ, Option}
use Rattle.text_rows.specs.declared.Slot.{Slot}

abbrev pub Found : Type 0
Found = Option (Slot × ℕ)
