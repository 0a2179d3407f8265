-- What judging a field or a row where its bytes lie answers. Assumes nothing.
use Rattle.std.specs.Prelude.{List, ℕ, ◌+◌, ◌*◌, drop, get_or}
use Rattle.std.proofs.Math.Option.{Option, none, some}
use Rattle.std.specs.Prelude.{Ok, Err}
use Rattle.answers.specs.declared.Fault.{Fault}
use Rattle.rows.specs.Types.{Step}
use Rattle.rows.specs.declared.Table.{Table}
use Rattle.numbers.specs.BigEndian.{Width, size}
use Rattle.rows.specs.Fields.{Field, sequence_fault, integer_fault, fault, taken, fronts, faults, span}
use Rattle.rows.specs.Rows.{key_fields, row_fields}

-- the place reached where nothing is wrong
abbrev pub reached : Option Fault → ℕ → Step
reached none a = Ok a
reached (some f) a = Err f

-- a field at `at` of a row: where the next begins
abbrev pub sequence_step : ℕ → ℕ → ℕ → List ℕ → ℕ → Step
sequence_step s lo hi row at = reached (sequence_fault s lo hi (drop at row)) (at + (1 + get_or (drop at row) 0 0 * s))

abbrev pub integer_step : Width → ℕ → ℕ → List ℕ → ℕ → Step
integer_step w lo hi row at = reached (integer_fault w lo hi (drop at row)) (at + size w)

abbrev pub field_step : Field → List ℕ → ℕ → Step
field_step k row at = reached (fault k (drop at row)) (at + taken k (drop at row))

-- fields from `at` on: where they end
abbrev pub fields_step : List Field → List ℕ → ℕ → Step
fields_step ks row at = reached (fronts ks (drop at row)) (at + span ks (drop at row))

-- a row of a table, or a key by itself: where the key ends
abbrev pub row_step : Table → List ℕ → Step
row_step t row = reached (faults (row_fields t) row) (span (key_fields t) row)

abbrev pub key_step : Table → List ℕ → Step
key_step t key = reached (faults (key_fields t) key) (span (key_fields t) key)
