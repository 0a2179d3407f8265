-- Edits of the rows held (document 01, "Edits" and "Where each number is met"; document 02, ticket 6): what they are, the storage rules, how they
-- are judged by the row held, room, what they leave; who makes them, and how the tables judge a principal's. Assumes nothing.
use Rattle.std.specs.Prelude.{Bool, true, false, cond, not, ◌&&◌, ◌||◌, List, [], ◌∷◌, ℕ, eqb, leb, length}
use Rattle.std.proofs.Math.Option.{Option, none, some, map}
use Rattle.std.specs.Prelude.{Ok, Err}
use Rattle.answers.specs.declared.Refusal.TheVariants.{Barred, Faulty}
use Rattle.answers.specs.declared.Decision.{Decision}
use Rattle.answers.specs.declared.Decision.TheVariants.{Allowed, Refused}
use Rattle.answers.specs.declared.Fault.{Fault}
use Rattle.answers.specs.declared.Fault.TheVariants.{TableFull, RowAbsent, StorageForbids, RowHeld}
use Rattle.answers.specs.Numbers.{cause_number, fault_number}
use Rattle.rows.specs.declared.Shape.{Shape}
use Rattle.rows.specs.declared.Shape.TheVariants.{Row, Key}
use Rattle.rows.specs.declared.Table.{Table}
use Rattle.rows.specs.declared.Table.TheVariants.{Context, Mapping, Access, View}
use Rattle.rows.specs.Fields.{faults, or_else, within}
use Rattle.rows.specs.Rows.{fields_of, limit, model_max, index_of}
use Rattle.rows.specs.Tables.{Tables}
use Rattle.numbers.specs.Lists.{is_none}
use Rattle.decision_steps.specs.Request.{asked, longest_name, no_auth_no_priv, auth_priv, write}
use Rattle.decision_steps.specs.Decision.{decision}
use Rattle.edit_rules.specs.declared.Operation.{Operation}
use Rattle.edit_rules.specs.declared.Operation.TheVariants.{Create, Change, Remove}
use Rattle.edit_rules.specs.Types.{Edited}
use Rattle.edit_rules.specs.TableRows.{permanent, read_only, RowOf, row_of, row_index, storage_of, rows_of, with_rows}
use Rattle.table_update.specs.Tables.{row_at, put_row, remove_row}
use Rattle.instance_encode.specs.Instances.{columns, instance, status_column}

-- ---- edits, as they are handed: an operation on a table, with a row's bytes or a key's, in the form of the image

pub record Edit : Type 0 where
  pub operation : Operation
  pub table : Table
  pub bytes : List ℕ

abbrev pub edit_of : Operation → Table → List ℕ → Edit
edit_of o t bytes = record { operation = o; table = t; bytes = bytes }

-- what is handed: the row as it shall be, or the key of the row to remove
abbrev pub shape_of : Operation → Shape
shape_of Create = Row
shape_of Change = Row
shape_of Remove = Key

abbrev pub is_create : Operation → Bool
is_create Create = true
is_create Change = false
is_create Remove = false

-- whole bytes, each field in range
unfoldable pub legal_edit : Edit → Bool
legal_edit e = is_none (faults (fields_of (shape_of e.operation) e.table) e.bytes)

-- the index of the row that an edit is of, and that row among those held
unfoldable pub index_of_edit : Edit → List ℕ
index_of_edit e = index_of e.table e.bytes

abbrev pub row_held : Tables → (e : Edit) → Option (RowOf e.table)
row_held ts e = row_at (row_index e.table) (index_of_edit e) (rows_of e.table ts)

-- ---- storage

abbrev pub is_fixed : ℕ → Bool
is_fixed storage = eqb storage permanent || eqb storage read_only

-- A row is put where it is created or changed. A principal may not give storage permanent or read_only to a row that lacks it, nor alter permanent, nor
-- touch a row of read_only.
unfoldable pub may_put : Option ℕ → ℕ → Bool
may_put none new = not (is_fixed new)
may_put (some old) new = not (eqb old read_only) && cond (eqb old permanent) (eqb new permanent) (not (is_fixed new))

-- it may not remove a row of permanent or read_only
unfoldable pub may_remove : ℕ → Bool
may_remove old = not (is_fixed old)

-- by the storage of the row held, if one is, and that of the row put
abbrev pub storage_lets : Shape → Option ℕ → ℕ → Bool
storage_lets Row old new = may_put old new
storage_lets Key none new = true
storage_lets Key (some old) new = may_remove old

-- ---- an edit judged by the row held, if one is: 18 or 10, then 11

-- "create adds a row whose key isn't held, change replaces one that is"; a removal is of a row that is held
abbrev pub presence_fault : Operation → Bool → Option Fault
presence_fault o held = cond (is_create o) (cond held (some RowHeld) none) (cond held none (some RowAbsent))

-- strict: by a principal, to whom the storage rules apply
abbrev pub held_fault : Bool → Operation → Option ℕ → ℕ → Option Fault
held_fault strict o old new =
    or_else (presence_fault o (not (is_none old))) (cond (strict && not (storage_lets (shape_of o) old new)) (some StorageForbids) none)

unfoldable pub row_fault : Bool → Tables → Edit → Option Fault
row_fault strict ts e =
    held_fault strict e.operation (map (storage_of e.table) (row_held ts e)) (storage_of e.table (row_of e.table e.bytes))

-- ---- room: 9 where a row would be created in a table with as many rows as it may have; rows out of service take room too

unfoldable pub is_full : Tables → Edit → Bool
is_full ts e = is_create e.operation && leb (limit e.table) (length (rows_of e.table ts))

-- ---- an edit applied: the row put or gone, the other tables as they were

abbrev pub rows_after : {R : Type 0} → (R → List ℕ) → Shape → R → List ℕ → List R → List R
rows_after index_of Row r i rs = put_row index_of r rs
rows_after index_of Key r i rs = remove_row index_of i rs

unfoldable pub applied : Tables → Edit → Tables
applied ts e =
    with_rows e.table ts
    (rows_after (row_index e.table) (shape_of e.operation) (row_of e.table e.bytes) (index_of_edit e) (rows_of e.table ts))

-- ---- what is answered, and the tables that stand afterwards

-- document 01's number for each case
abbrev pub edited_number : Edited → ℕ
edited_number (Ok tt) = 0
edited_number (Err (Barred c)) = cause_number c
edited_number (Err (Faulty f)) = fault_number f

pub record Outcome : Type 0 where
  pub answer : Edited
  pub rows : Tables

abbrev pub outcome : Edited → Tables → Outcome
outcome r ts = record { answer = r; rows = ts }

-- as an edit is judged, Done where nothing stands against it; then room; then it is applied. A refusal changes nothing.
abbrev pub settled : Edited → Tables → Edit → Outcome
settled (Ok tt) ts e = cond (is_full ts e) (outcome (Err (Faulty TableFull)) ts) (outcome (Ok tt) (applied ts e))
settled (Err (Barred c)) ts e = outcome (Err (Barred c)) ts
settled (Err (Faulty f)) ts e = outcome (Err (Faulty f)) ts

abbrev pub faulted : Option Fault → Edited
faulted none = (Ok tt)
faulted (some f) = Err (Faulty f)

-- an edit whose bytes are legal and that the tables let be made
unfoldable pub edit : Bool → Tables → Edit → Outcome
edit strict ts e = settled (faulted (row_fault strict ts e)) ts e

-- ---- who edits

pub record Caller : Type 0 where
  pub security_model : ℕ
  pub security_name : List ℕ
  pub security_level : ℕ

abbrev pub caller_of : ℕ → List ℕ → ℕ → Caller
caller_of model name level = record { security_model = model; security_name = name; security_level = level }

unfoldable pub legal_caller : Caller → Bool
legal_caller c = within 1 model_max c.security_model && within 1 longest_name (length c.security_name) && within no_auth_no_priv auth_priv c.security_level

abbrev pub is_context : Table → Bool
is_context Context = true
is_context Mapping = false
is_context Access = false
is_context View = false

-- ---- what the tables let a principal edit: a write request in the empty context at each column that is written; the first refusal is the answer

-- a create and a change write every column that document 01 lists, also where the row held has the value already; a removal writes the status
abbrev pub columns_written : Shape → Table → List ℕ
columns_written Row t = columns t
columns_written Key t = status_column t ∷ []

-- at a column of the row with this index
abbrev pub column_judged : Tables → Caller → Table → List ℕ → ℕ → Decision
column_judged ts c t index column =
    decision ts (asked c.security_model c.security_name c.security_level write [] (instance t column index))

abbrev pub if_allowed : Decision → Decision → Decision
if_allowed Allowed next = next
if_allowed (Refused cause) next = Refused cause

abbrev pub first_refusal : (ℕ → Decision) → List ℕ → Decision
first_refusal judged [] = Allowed
first_refusal judged (column ∷ columns) = if_allowed (judged column) (first_refusal judged columns)

unfoldable pub judgement_at : Tables → Caller → Shape → Table → List ℕ → Decision
judgement_at ts c s t index = first_refusal (column_judged ts c t index) (columns_written s t)

abbrev pub judgement : Tables → Caller → Edit → Decision
judgement ts c e = judgement_at ts c (shape_of e.operation) e.table (index_of_edit e)
