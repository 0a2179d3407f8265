-- The key at the front of a whole row: it is legal, and its three runs are the row's index. Assumes nothing.
use mathlib.Core.Path.{◌≡◌, sym, ap, ap₂, ◌∙◌}
use mathlib.Core.List.{List}
use mathlib.Core.Option.{none}
use Prim.Native.Nat.{ℕ, ◌+◌, ◌*◌, ◌≤◌}
use native.Mathlib.Omega.{arith}
use lib.ListN.{length}
use Rattle.numbers.specs.BigEndian.{Octets}
use Rattle.rows.specs.declared.Table.{Table}
use Rattle.rows.specs.Fields.{faults}
use Rattle.rows.specs.Rows.{key_fields, index_of}
use Rattle.rows.proofs.Keys.{front-whole}
use Rattle.decision_steps.specs.Bytes.{Whole}
use Rattle.instance_encode.specs.Runs.{quads_from, quads_in, runs}
use Rattle.instance_encode.proofs.Keys.{key-runs}
use Rattle.table_update.proofs.Stores.{row_key}
use Rattle.edit_rules.specs.TableRows.{row_of, row_index}
use Rattle.edit_rules.proofs.Outcomes.{row-index}
use Rattle.edit_rules.proofs.Keys.{front-index}

module _ (t : Table) (row key : List ℕ) (b : Octets row) (f : Whole t row) (e : key ≡ row_key t row) where
  pub key_legal : faults (key_fields t) key ≡ none
  key_legal = rw e (front-whole t row b f)

  pub key-index : index_of t key ≡ row_index t (row_of t row)
  key-index = ap (index_of t) e ∙ front-index t row b f ∙ sym (row-index t row)

  module _ {from quads : ℕ} (p : from ≡ quads_from t key) (q : quads ≡ quads_in t key) where
    pub runs-room : from + 4 * quads ≤ length key
    runs-room = omega (arith, (key-runs t key key_legal).room)

    pub runs-index : runs from quads key ≡ row_index t (row_of t row)
    runs-index = ap₂ (λ n m. runs n m key) p q ∙ sym (key-runs t key key_legal).index_is ∙ key-index
