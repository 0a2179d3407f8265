-- What the quick look at a row tells. Assumes nothing.
use Rattle.std.specs.Prelude.{◌≡◌, Bool, true, ◌&&◌, List, ℕ, ◌-◌, length, drop, get_or}
use Rattle.std.proofs.Math.Option.{none}
use Rattle.std.specs.Prelude.{Option, None, Some, Ok}
use Rattle.rows.specs.declared.Table.{Table}
use Rattle.rows.specs.Fields.{Field, within, faults}
use Rattle.rows.specs.Steps.{row_step}

-- a quick test of a row: None, which tells nothing, or where the key of a legal row ends
abbrev pub KeyEnd : Table → List ℕ → Option ℕ → Type 0
KeyEnd t row None = Unit {0}
KeyEnd t row (Some k) = row_step t row ≡ Ok k

-- a quick test of the last fields of a row: where it passes, nothing is wrong from `at` on
abbrev pub Fits : List Field → List ℕ → ℕ → Bool → Type 0
Fits ks row at b = b ≡ true → faults ks (drop at row) ≡ none

-- the last bytes of a row are a storage and a status
abbrev pub ends_well : List ℕ → Bool
ends_well row = within 2 5 (get_or row (length row - 2) 0) && within 1 2 (get_or row (length row - 1) 0)
