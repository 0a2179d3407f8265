-- The key at the front of a row: where nothing is wrong with the row, nothing is with its key, whose bytes are those of the key's fields. Assumes nothing.
use mathlib.Core.Path.{◌≡◌, ap, ◌∙◌}
use mathlib.Core.Bool.{true}
use mathlib.Core.List.{List}
use mathlib.Core.Option.{none}
use Prim.Native.Nat.{ℕ, ◌≤◌}
use native.Mathlib.Omega.{arith}
use lib.ListN.{length, take}
use lib.Seq.{length-take-le}
use Rattle.numbers.specs.BigEndian.{Octets}
use Rattle.rows.specs.declared.Table.{Table}
use Rattle.rows.specs.Fields.{faults, values, span, row_bytes, legals}
use Rattle.rows.specs.Rows.{key_fields, row_fields, rest_fields, key_max}
use Rattle.rows.proofs.Appends.{row-split, key_room}
use Rattle.rows.proofs.Bounds.{bounded, key-longest}
use Rattle.rows.proofs.Inverse.{bytes-front, legals-front, faults-made}

module _ (t : Table) (row : List ℕ) (b : Octets row) (f : faults (row_fields t) row ≡ none) where
  pub front_bytes : row_bytes (key_fields t) (values (key_fields t) row) ≡ take (span (key_fields t) row) row
  front_bytes = bytes-front (key_fields t) (rest_fields t) row b (rw (row-split t) at f)

  pub front-legal : legals (key_fields t) (values (key_fields t) row) ≡ true
  front-legal = legals-front (key_fields t) (rest_fields t) row b (rw (row-split t) at f)

  pub front-whole : faults (key_fields t) (take (span (key_fields t) row) row) ≡ none
  front-whole = rw (← front_bytes) (faults-made (key_fields t) (values (key_fields t) row) front-legal)

  pub front_length : length (row_bytes (key_fields t) (values (key_fields t) row)) ≡ span (key_fields t) row
  front_length = ap length front_bytes ∙ length-take-le (span (key_fields t) row) row (key_room t row f)

  pub front-short : span (key_fields t) row ≤ key_max
  front-short = omega (
    arith,
    bounded (key_fields t) (take (span (key_fields t) row) row) front-whole,
    key-longest t,
    length-take-le (span (key_fields t) row) row (key_room t row f),
  )
