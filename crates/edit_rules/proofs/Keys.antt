-- The key at the front of what an edit is handed: it is whole, and has the index of the row. Assumes nothing.
use mathlib.Core.Path.{◌≡◌, sym, ap, ◌∙◌}
use mathlib.Core.List.{List}
use mathlib.Core.Option.{none}
use Prim.Native.Nat.{ℕ, ◌-◌}
use native.Mathlib.Omega.{arith}
use lib.ListN.{take}
use Rattle.rows.specs.declared.Shape.{Shape}
use Rattle.rows.specs.declared.Shape.TheVariants.{Row, Key}
use Rattle.rows.specs.declared.Table.{Table}
use Rattle.numbers.specs.BigEndian.{Octets}
use Rattle.rows.specs.Fields.{faults, values, span, index}
use Rattle.rows.specs.Rows.{key_fields, row_fields, fields_of, index_of}
use Rattle.rows.proofs.Inverse.{values-made}
use Rattle.rows.proofs.Keys.{front_bytes, front-legal, front-whole}
use Rattle.table_update.proofs.Stores.{row_key}
use Rattle.edit_rules.proofs.Outcomes.{key-whole}

module _ (t : Table) (row : List ℕ) (b : Octets row) (f : faults (row_fields t) row ≡ none) where
  pub front-index : index_of t (row_key t row) ≡ index_of t row
  front-index = ap (index (key_fields t)) (ap (values (key_fields t)) (sym (front_bytes t row b f))
      ∙ values-made (key_fields t) (values (key_fields t) row) (front-legal t row b f))

pub key-part : (t : Table) (bytes : List ℕ) {k : ℕ} → span (key_fields t) bytes ≡ k → take (k - 0) bytes ≡ row_key t bytes
key-part t bytes {k} e = let z : k - 0 ≡ span (key_fields t) bytes = omega arith in ap (λ n. take n bytes) z

pub key_legal : (s : Shape) (t : Table) (bytes : List ℕ) → Octets bytes → faults (fields_of s t) bytes ≡ none → faults (key_fields t) (row_key t bytes) ≡ none
key_legal Row t bytes b f = front-whole t bytes b f
key_legal Key t bytes b f = rw (key-whole t bytes f) f

-- it has the index of what is handed
pub key-index : (s : Shape) (t : Table) (bytes : List ℕ) → Octets bytes → faults (fields_of s t) bytes ≡ none
    → index_of t (row_key t bytes) ≡ index_of t bytes
key-index Row t bytes b f = front-index t bytes b f
key-index Key t bytes b f = ap (index_of t) (key-whole t bytes f)
