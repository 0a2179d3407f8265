-- Document 02, ticket 7, sentence by sentence: what a set of `Sets` comes to on the tables of any store, whoever makes it and however long it is. Edits are
-- handed bytes, as a lent slice holds them. Assumes nothing.
use Rattle.std.specs.Prelude.{◌≡◌, Bool, false, cond, ◌&&◌, List, [], ◌∷◌, ℕ, ◌≤◌, length}
use Rattle.std.proofs.Math.Option.{Option, none, some}
use Rattle.std.specs.Prelude.{Ok}
use Rattle.numbers.specs.Lists.{any, Among}
use Rattle.numbers.specs.Order.{same}
use Rattle.rows.specs.declared.Shape.{Shape}
use Rattle.rows.specs.declared.Shape.TheVariants.{Row, Key}
use Rattle.rows.specs.declared.Table.{Table}
use Rattle.rows.specs.Rows.{limit}
use Rattle.rows.specs.Tables.{Tables}
use Rattle.image.specs.Store.{held}
use Rattle.table_update.specs.Tables.{row_at}
use Rattle.edit_rules.specs.TableRows.{row_of, row_index, rows_of}
use Rattle.edit_rules.specs.Edits.{Edit, Caller, shape_of, index_of_edit, row_held, legal_caller}
use Rattle.edits.specs.Calls.{principal_edit}
use Rattle.set_rules.specs.Sets.{same_table, is_done, answer_at, principal_set}
use Rattle.set_rules.specs.Handed.{AllOctets}

-- a row put stands, a row removed is gone
abbrev pub standing : {R : Type 0} → Shape → R → Option R
standing Row r = some r
standing Key r = none

-- one of the set's rows is that of table t at index i
abbrev pub is_of : List Edit → Table → List ℕ → Bool
is_of es t i = any (λ e. same_table e.table t && same (index_of_edit e) i) es

-- "Accepted, it leaves the old rows with exactly its rows put or gone": at each index of each table
pub record Exactly (ts : Tables) (es : List Edit) (after : Tables) : Type 0 where
  pub own : (e : Edit) → Among e es → row_held after e ≡ standing (shape_of e.operation) (row_of e.table e.bytes)
  pub others : (t : Table) (i : List ℕ) → is_of es t i ≡ false → row_at (row_index t) i (rows_of t after) ≡ row_at (row_index t) i (rows_of t ts)

pub record AllOrNone : Type 0 where
  pub accepted : (w : List ℕ) (ts : Tables) → held w ≡ some ts → (c : Caller) (es : List Edit) → AllOctets es
      → (principal_set ts c es).answer.answer ≡ (Ok tt)
      → Exactly ts es (principal_set ts c es).rows × ((principal_set ts c es).answer ≡ answer_at (Ok tt) 0)
      × ((t : Table) → length (rows_of t (principal_set ts c es).rows) ≤ limit t)
  -- "the first refusal .. comes back .., and nothing changes"
  pub refused : (ts : Tables) (c : Caller) (es : List Edit) → is_done (principal_set ts c es).answer.answer ≡ false → (principal_set ts c es).rows ≡ ts
  -- "one rule, whatever its length": a set of one is the single edit, about whose refusal it says 1, where it is not the caller's 7
  pub one : (w : List ℕ) (ts : Tables) → held w ≡ some ts → (c : Caller) (e : Edit)
      → ((principal_set ts c (e ∷ [])).answer
      ≡ answer_at (principal_edit ts c e).answer (cond (legal_caller c) (cond (is_done (principal_edit ts c e).answer) 0 1) 0))
      × ((principal_set ts c (e ∷ [])).rows ≡ (principal_edit ts c e).rows)
