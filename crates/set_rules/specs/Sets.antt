-- A set of edits by one principal (document 02, ticket 7): when it is one, how it is judged, room, and the rows that it leaves. One definition of answer,
-- position and rows, whatever its length. Assumes nothing.
use Rattle.std.specs.Prelude.{Bool, true, false, cond, not, ◌&&◌, List, [], ◌∷◌, ℕ, suc, eqb, ltb, length, take}
use Rattle.std.specs.Prelude.{Ok, Err}
use Rattle.answers.specs.declared.Refusal.TheVariants.{Barred, Faulty}
use Rattle.answers.specs.declared.Fault.TheVariants.{OutOfRange, TableFull, NotASet}
use Rattle.numbers.specs.Lists.{any, is_none}
use Rattle.numbers.specs.Order.{same}
use Rattle.rows.specs.declared.Table.{Table}
use Rattle.rows.specs.declared.Table.TheVariants.{Context, Mapping, Access, View}
use Rattle.rows.specs.Fields.{fronts, span, within}
use Rattle.rows.specs.Rows.{key_fields, limit}
use Rattle.rows.specs.Tables.{Tables}
use Rattle.table_update.specs.Exchange.{position}
use Rattle.edit_rules.specs.Types.{Edited}
use Rattle.edit_rules.specs.TableRows.{rows_of}
use Rattle.edit_rules.specs.Edits.{Edit, Caller, is_create, legal_caller, applied}
use Rattle.edits.specs.Calls.{principal_judged}
use Rattle.set_rules.specs.declared.SetAnswer.{SetAnswer}

-- ---- 19: "when the set is empty, longer than 8 or has a legal key of one table twice"

abbrev pub most_edits : ℕ
most_edits = 8

abbrev pub same_table : Table → Table → Bool
same_table t u = eqb (position t) (position u)

-- the key at the front of what an edit is handed, whatever follows it: legal, and its bytes
unfoldable pub key_legal : Edit → Bool
key_legal e = is_none (fronts (key_fields e.table) e.bytes)

unfoldable pub key_bytes : Edit → List ℕ
key_bytes e = take (span (key_fields e.table) e.bytes) e.bytes

unfoldable pub same_key : Edit → Edit → Bool
same_key d e = same_table d.table e.table && (key_legal d && (key_legal e && same (key_bytes d) (key_bytes e)))

abbrev pub keys_differ : List Edit → Bool
keys_differ [] = true
keys_differ (e ∷ es) = not (any (same_key e) es) && keys_differ es

unfoldable pub is_set : List Edit → Bool
is_set es = within 1 most_edits (length es) && keys_differ es

-- ---- an answer and its position

abbrev pub answer_at : Edited → ℕ → SetAnswer
answer_at r p = record { answer = r; position = p }

abbrev pub is_done : Edited → Bool
is_done (Ok tt) = true
is_done (Err (Barred c)) = false
is_done (Err (Faulty f)) = false

-- the first refusal of two
unfoldable pub or_next : SetAnswer → SetAnswer → SetAnswer
or_next a b = cond (is_done a.answer) b a

-- ---- "the first refusal in set order comes back with its position": of the edits from position p on

abbrev pub first_refused : (Edit → Edited) → ℕ → List Edit → SetAnswer
first_refused judged p [] = answer_at (Ok tt) 0
first_refused judged p (e ∷ es) = or_next (answer_at (judged e) p) (first_refused judged (suc p) es)

-- ---- applied, one after the other

abbrev pub applied_all : Tables → List Edit → Tables
applied_all ts [] = ts
applied_all ts (e ∷ es) = applied_all (applied ts e) es

-- ---- "Room is judged last, on the rows that would stand afterwards, tables in document 01's order; 9 carries the position of the set's first create
-- in that table."

abbrev pub creates_in : Table → Edit → Bool
creates_in t e = is_create e.operation && same_table t e.table

-- the position of the first create in a table, 0 where there is none: of the edits from position p on
abbrev pub first_create : Table → ℕ → List Edit → ℕ
first_create t p [] = 0
first_create t p (e ∷ es) = cond (creates_in t e) p (first_create t (suc p) es)

abbrev pub is_over : Tables → Table → Bool
is_over after t = ltb (limit t) (length (rows_of t after))

abbrev pub room_in : Tables → List Edit → Table → SetAnswer
room_in after es t = cond (ltb 0 (first_create t 1 es) && is_over after t) (answer_at (Err (Faulty TableFull)) (first_create t 1 es)) (answer_at (Ok tt) 0)

unfoldable pub room : Tables → List Edit → SetAnswer
room after es = or_next (room_in after es Context) (or_next (room_in after es Mapping) (or_next (room_in after es Access) (room_in after es View)))

-- ---- a set: 19; 7 for the caller; each edit "judged against the store before the set, room excepted"; room. "Positions count from 1; 6, 19 and a
-- caller's 7 carry 0."

unfoldable pub set_judged : Tables → Caller → List Edit → SetAnswer
set_judged ts c es =
    cond (is_set es)
    (cond (legal_caller c) (or_next (first_refused (principal_judged ts c) 1 es) (room (applied_all ts es) es)) (answer_at (Err (Faulty OutOfRange)) 0))
    (answer_at (Err (Faulty NotASet)) 0)

pub record SetOutcome : Type 0 where
  pub answer : SetAnswer
  pub rows : Tables

-- accepted, it is applied; a refusal changes nothing
unfoldable pub principal_set : Tables → Caller → List Edit → SetOutcome
principal_set ts c es =
    let a : SetAnswer = set_judged ts c es in record { answer = a; rows = cond (is_done a.answer) (applied_all ts es) ts }
