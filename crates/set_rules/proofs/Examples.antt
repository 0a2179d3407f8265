-- Sets of edits by a principal who may write everything, by computation: the answer, its position, and the rows that stand afterwards.
-- Each edit is judged by the rows before the set, and the first refused is told; then room, on the rows that would stand; a refusal leaves the rows as they
-- were. What is no set is told before the caller and the edits are looked at. Names are of one octet: the caller is 1, of the group 2, which writes by
-- the view 1. Assumes nothing.
use mathlib.Core.Path.{◌≡◌, refl}
use mathlib.Core.List.{List, [], ◌∷◌, map}
use Prim.Native.Nat.{ℕ, zero, suc}
use Rattle.std.specs.Prelude.{Ok, Err}
use Rattle.answers.specs.declared.Refusal.TheVariants.{Barred, Faulty}
use Rattle.answers.specs.declared.Cause.TheVariants.{NoGroupName}
use Rattle.answers.specs.declared.Fault.TheVariants.{OutOfRange, TableFull, RowAbsent, RowHeld, NotASet}
use Rattle.numbers.specs.Order.{same, before}
use Rattle.rows.specs.declared.Table.TheVariants.{Mapping, View}
use Rattle.rows.specs.Fields.{sequence_fault, integer_fault, faults, fronts, span, row_bytes}
use Rattle.rows.specs.Rows.{MappingRow, AccessRow, ViewRow, key_fields, row_fields}
use Rattle.rows.specs.Tables.{Tables}
use Rattle.edit_rules.specs.declared.Operation.{Operation}
use Rattle.edit_rules.specs.declared.Operation.TheVariants.{Create, Change, Remove}
use Rattle.edit_rules.specs.Types.{Edited}
use Rattle.edit_rules.specs.TableRows.{tables_of}
use Rattle.edit_rules.specs.Edits.{Edit, Caller, edit_of, caller_of, index_of_edit, legal_edit, may_put, may_remove, row_fault, applied, legal_caller}
use Rattle.edit_rules.proofs.Examples.{judged}
use Rattle.edits.specs.Calls.{principal_judged}
use Rattle.set_rules.specs.Sets.{SetOutcome, answer_at, is_set, same_key, key_legal, key_bytes, or_next, room, set_judged, principal_set}

-- ---- rows: of a principal, of the group, of a view with a subtree of one part

abbrev mapped_by : ℕ → List ℕ → ℕ → MappingRow
mapped_by model name group = record { security_model = model; security_name = name; group_name = group ∷ []; storage_type = 3; status = 1 }

abbrev mapped : ℕ → ℕ → MappingRow
mapped name group = mapped_by 3 (name ∷ []) group

abbrev granted : AccessRow
granted = record {
  group_name = 2 ∷ [];
  context_prefix = [];
  security_model = 3;
  security_level = 1;
  context_match = 1;
  read_view_name = [];
  write_view_name = 1 ∷ [];
  notify_view_name = [];
  storage_type = 3;
  status = 1;
}

abbrev viewed : ℕ → ℕ → ViewRow
viewed name part = record { view_name = name ∷ []; subtree = part ∷ []; mask = []; family_type = 1; storage_type = 3; status = 1 }

-- with these mappings, and these rows behind that of the caller's view
abbrev tables : List MappingRow → List ViewRow → Tables
tables ms vs = tables_of (record { context_name = [] } ∷ []) ms (granted ∷ []) (viewed 1 1 ∷ vs)

-- these mappings behind the caller's own
abbrev with : List MappingRow → Tables
with ms = tables (mapped 1 2 ∷ ms) []

-- ---- edits: of a mapping to the group 2, of a row of the view 2

abbrev mapping : Operation → ℕ → ℕ → ℕ → Edit
mapping o name group storage =
    edit_of o Mapping (row_bytes (row_fields Mapping) ((3 ∷ []) ∷ (name ∷ []) ∷ (group ∷ []) ∷ (storage ∷ []) ∷ (1 ∷ []) ∷ []))

abbrev create : ℕ → Edit
create name = mapping Create name 2 3

abbrev change : ℕ → ℕ → Edit
change name group = mapping Change name group 3

abbrev remove_key : List ℕ → Edit
remove_key name = edit_of Remove Mapping (row_bytes (key_fields Mapping) ((3 ∷ []) ∷ name ∷ []))

abbrev remove : ℕ → Edit
remove name = remove_key (name ∷ [])

-- storage 9
abbrev edit_out_of_range : ℕ → Edit
edit_out_of_range name = mapping Create name 2 9

abbrev create_view : ℕ → Edit
create_view part = edit_of Create View (row_bytes (row_fields View) ((2 ∷ []) ∷ (part ∷ []) ∷ [] ∷ (1 ∷ []) ∷ (3 ∷ []) ∷ (1 ∷ []) ∷ []))

-- ---- callers: one that may write everything, and one of no model

abbrev caller : Caller
caller = caller_of 3 (1 ∷ []) 1

abbrev nobody : Caller
nobody = caller_of 0 (1 ∷ []) 1

-- ---- what is told

-- `judged` unfolds all that a decision is made of
unfoldable pub made : Tables → Caller → List Edit → SetOutcome
unfolding principal_set set_judged is_set same_key key_legal key_bytes or_next room principal_judged legal_edit legal_caller row_fault applied may_put may_remove
    index_of_edit key_fields row_fields faults fronts span sequence_fault integer_fault same before judged
made ts c es = principal_set ts c es

abbrev told : Edited → ℕ → Tables → SetOutcome
told r p ts = record { answer = answer_at r p; rows = ts }

-- on these tables, which stay as they are
abbrev Refused : Tables → Caller → List Edit → Edited → ℕ → Type 0
Refused ts c es r p = made ts c es ≡ told r p ts

-- ---- accepted and refused

-- removals, creates and changes in any order
pub accepted : made (with (mapped 3 2 ∷ mapped 4 2 ∷ [])) caller (remove 3 ∷ create 5 ∷ change 4 3 ∷ []) ≡ told (Ok tt) 0 (with (mapped 4 3 ∷ mapped 5 2 ∷ []))
unfolding made
accepted = refl

-- "the first refusal in set order comes back with its position, and nothing changes"
pub first-refusal : Refused (with (mapped 3 2 ∷ [])) caller (create 5 ∷ create 3 ∷ change 4 3 ∷ []) (Err (Faulty RowHeld)) 2
unfolding made
first-refusal = refl

pub last-refused : Refused (with (mapped 3 2 ∷ [])) caller (create 5 ∷ remove 3 ∷ change 4 3 ∷ []) (Err (Faulty RowAbsent)) 3
unfolding made
last-refused = refl

-- "judged against the store before the set": what the caller is allowed goes with its mapping, and the next edit is still judged by it
pub judged-before : made (with []) caller (remove 1 ∷ create 5 ∷ []) ≡ told (Ok tt) 0 (tables (mapped 5 2 ∷ []) [])
unfolding made
judged-before = refl

-- the first edit's cause comes before the second's 7
pub cause-first : Refused (tables [] []) caller (create 5 ∷ edit_out_of_range 6 ∷ []) (Err (Barred NoGroupName)) 1
unfolding made
cause-first = refl

pub out_of_range : Refused (with []) caller (create 5 ∷ edit_out_of_range 6 ∷ []) (Err (Faulty OutOfRange)) 2
unfolding made
out_of_range = refl

-- "a caller's 7" carries 0
pub callers-fault : Refused (with []) nobody (create 5 ∷ []) (Err (Faulty OutOfRange)) 0
unfolding made
callers-fault = refl

-- ---- 19

-- numbers that follow one another
abbrev counted : ℕ → ℕ → List ℕ
counted n zero = []
counted n (suc k) = n ∷ counted (suc n) k

-- the mappings of k principals from n on
abbrev crowd : ℕ → ℕ → List MappingRow
crowd n k = map (λ name. mapped name 2) (counted n k)

pub empty : Refused (with []) caller [] (Err (Faulty NotASet)) 0
unfolding made
empty = refl

pub eight : made (with []) caller (map create (counted 3 8)) ≡ told (Ok tt) 0 (with (crowd 3 8))
unfolding made
eight = refl

pub nine : Refused (with []) caller (map create (counted 3 9)) (Err (Faulty NotASet)) 0
unfolding made
nine = refl

-- "a legal key of one table twice", of a removal and of a create
pub twice : Refused (with (mapped 3 2 ∷ [])) caller (remove 3 ∷ create 5 ∷ create 3 ∷ []) (Err (Faulty NotASet)) 0
unfolding made
twice = refl

-- "before all field checks", the caller's and the edits'
pub twice-first : Refused (with []) nobody (edit_out_of_range 5 ∷ edit_out_of_range 5 ∷ []) (Err (Faulty NotASet)) 0
unfolding made
twice-first = refl

-- an empty name makes no legal key
pub illegal-twice : Refused (with []) caller (remove_key [] ∷ remove_key [] ∷ []) (Err (Faulty OutOfRange)) 1
unfolding made
illegal-twice = refl

-- these octets are a key of two tables: that of the principal 3.4 of model 16843008, and that of the view 1 with the subtree 131844
abbrev of_two : List ℕ
of_two = 1 ∷ 1 ∷ 1 ∷ 0 ∷ 2 ∷ 3 ∷ 4 ∷ []

pub once-each : made (tables (mapped 1 2 ∷ mapped_by 16843008 (3 ∷ 4 ∷ []) 2 ∷ []) (viewed 1 131844 ∷ [])) caller
    (edit_of Remove Mapping of_two ∷ edit_of Remove View of_two ∷ [])
    ≡ told (Ok tt) 0 (with [])
unfolding made
once-each = refl

-- ---- room, where a table is full

abbrev full : Tables
full = with (crowd 2 63)

-- "judged last, on the rows that would stand afterwards"
pub removal-counts : (made full caller (create 65 ∷ remove 2 ∷ [])).answer ≡ answer_at (Ok tt) 0
unfolding made
removal-counts = refl

pub held_first : (made full caller (create 65 ∷ create 3 ∷ [])).answer ≡ answer_at (Err (Faulty RowHeld)) 2
unfolding made
held_first = refl

-- "9 carries the position of the set's first create in that table"
pub first-create : (made full caller (remove 2 ∷ create 65 ∷ create 66 ∷ [])).answer ≡ answer_at (Err (Faulty TableFull)) 2
unfolding made
first-create = refl

-- "tables in document 01's order": both are full, and mappings come before views
pub mappings-first : (made (tables (crowd 1 64) (map (viewed 2) (counted 1 95))) caller (create_view 96 ∷ create 65 ∷ [])).answer
    ≡ answer_at (Err (Faulty TableFull)) 2
unfolding made
mappings-first = refl
