-- Document 02, ticket 6, sentence by sentence: what an edit of `Edits` comes to by the row held, for any tables and whoever makes it. Assumes nothing.
use Rattle.std.specs.Prelude.{◌≡◌, Bool, true, false, List, ℕ, suc, length}
use Rattle.std.proofs.Math.Option.{none, some}
use Rattle.std.specs.Prelude.{Ok, Err}
use Rattle.answers.specs.declared.Refusal.TheVariants.{Faulty}
use Rattle.answers.specs.declared.Fault.TheVariants.{TableFull, RowAbsent, RowHeld}
use Rattle.numbers.specs.Lists.{is_none}
use Rattle.numbers.specs.Order.{same}
use Rattle.rows.specs.Tables.{Tables}
use Rattle.table_update.specs.Tables.{row_at}
use Rattle.edit_rules.specs.declared.Operation.TheVariants.{Create, Change}
use Rattle.edit_rules.specs.TableRows.{row_of, row_index, rows_of, with_rows}
use Rattle.edit_rules.specs.Edits.{Edit, is_create, index_of_edit, row_held, outcome, edit}

-- the row handed stands at its index; at every other index of its table the row that was there, or none; the other tables are as they were
pub record Stands (ts : Tables) (e : Edit) (after : Tables) : Type 0 where
  pub own : row_held after e ≡ some (row_of e.table e.bytes)
  pub others : (i : List ℕ) → same i (index_of_edit e) ≡ false
      → row_at (row_index e.table) i (rows_of e.table after) ≡ row_at (row_index e.table) i (rows_of e.table ts)
  pub elsewhere : after ≡ with_rows e.table ts (rows_of e.table after)

pub record CreateApartFromChange : Type 0 where
  -- "create adds a row whose key isn't held, ..
  pub create_adds : (strict : Bool) (ts : Tables) (e : Edit) → e.operation ≡ Create → (edit strict ts e).answer ≡ (Ok tt)
      → (row_held ts e ≡ none) × Stands ts e (edit strict ts e).rows
      × (length (rows_of e.table (edit strict ts e).rows) ≡ suc (length (rows_of e.table ts)))
  -- .. change replaces one that is."
  pub change_replaces : (strict : Bool) (ts : Tables) (e : Edit) → e.operation ≡ Change → (edit strict ts e).answer ≡ (Ok tt)
      → (is_none (row_held ts e) ≡ false) × Stands ts e (edit strict ts e).rows
  -- "Change of an absent row is 10.": whatever its storage
  pub change_absent : (strict : Bool) (ts : Tables) (e : Edit) → e.operation ≡ Change → row_held ts e ≡ none
      → edit strict ts e ≡ outcome (Err (Faulty RowAbsent)) ts
  -- "18 when the row to create is already held, at the place of 10.": whatever its storage, in a full table too
  pub create_held : (strict : Bool) (ts : Tables) (e : Edit) → e.operation ≡ Create → is_none (row_held ts e) ≡ false
      → edit strict ts e ≡ outcome (Err (Faulty RowHeld)) ts
  -- and only a create wants room
  pub full_creates : (strict : Bool) (ts : Tables) (e : Edit) → (edit strict ts e).answer ≡ Err (Faulty TableFull) → is_create e.operation ≡ true
