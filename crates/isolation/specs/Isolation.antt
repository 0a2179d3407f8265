-- Demand 3 of the mission: "Nobody who had no edit accepted inside a group's circle can change what its members are told."
-- Words in quotation marks are the mission's, or document 01's ("The two lists of demand 3") or 02's where that is said. "Circle", "member call",
-- "shared calls" and "answer" are document 01's own terms. The calls and what each of them does are those of `calls/specs/Does.antt`: the
-- propositions that the calls' contracts cite. Assumes nothing.
use Rattle.std.specs.Prelude.{◌≡◌, Bool, true, false, not, ◌&&◌, ◌||◌, List, [], ◌∷◌, map, ℕ, eqb}
use Rattle.std.proofs.Math.Option.{some}
use Rattle.numbers.specs.BigEndian.{Octets}
use Rattle.numbers.specs.Lists.{keep, every, any}
use Rattle.numbers.specs.Order.{same}
use Rattle.rows.specs.declared.Shape.{Shape}
use Rattle.rows.specs.declared.Shape.TheVariants.{Row, Key}
use Rattle.rows.specs.declared.Table.{Table}
use Rattle.rows.specs.declared.Table.TheVariants.{Context, Mapping, Access, View}
use Rattle.rows.specs.Fields.{values, legals, index}
use Rattle.rows.specs.Rows.{AccessRow, context_key, mapping_key, access_key, view_key, key_fields, field_at, number_at}
use Rattle.rows.specs.Tables.{Tables, no_rows}
use Rattle.image.specs.Store.{held}
use Rattle.instance_encode.specs.Instances.{lists, instance}
use Rattle.table_update.specs.Tables.{row_at}
use Rattle.edit_rules.specs.Edits.{Edit, Caller, shape_of, is_create}
use Rattle.edit_rules.specs.TableRows.{RowOf, row_of, values_of, context_index, mapping_index, access_index, view_index}
use Rattle.walk_rules.specs.Walk.{may_read}
use Rattle.calls.specs.Does.{Call, ask, owner, by, by_set, walk, Reply, reply_number, Does}

-- ---- "Take every two lists of decision requests and edits, refused ones included, .."

-- a call and its answer
abbrev pub Told : Type 0
Told = Call × Reply

abbrev pub calls : List Told → List Call
calls ts = map (λ (t : Told). t.0) ts

-- A list, from the store that its first call gets to the store that its last one leaves.
-- Document 01: "Each later call gets the store that the one before it returned or left, and nobody else writes that store in the meantime."
-- A store is bytes, as a lent slice holds them.
pub data Run : List ℕ → List Told → List ℕ → Type 0 where
  done : {s : List ℕ} → Run s [] s
  more : {s next end : List ℕ} {c : Call} {r : Reply} {ts : List Told} → Octets s → Does s c r next → Run next ts end
      → Run s ((c, r) ∷ ts) end

-- what holds at each call of a run: of the store that it finds, the call and its answer
abbrev pub Along : (List ℕ → Call → Reply → Type 0) → {s end : List ℕ} {ts : List Told} → Run s ts end → Type 0
Along P done = Unit {0}
Along P (more {s = s} {c = c} {r = r} b d run) = P s c r × Along P run

-- ".. each from a fresh store." Document 01: "A fresh store has no rows." It is sound, as every store is that holds tables.
abbrev pub Fresh : List ℕ → Type 0
Fresh s = held s ≡ some no_rows

-- ---- "For any group, any principals as members and any chosen view names, the circle is .."

-- a member by its security model and security name
pub record Circle : Type 0 where
  pub group : List ℕ
  pub member : ℕ → List ℕ → Bool
  pub chosen : List ℕ → Bool

-- ".. every context row, the members' mapping rows, the group's access rows and the view rows of chosen names.": by the fields of the key
abbrev pub key_in : Circle → Table → List (List ℕ) → Bool
key_in w Context key = true
key_in w Mapping key = w.member (number_at 0 key) (field_at 1 key)
key_in w Access key = same (field_at 0 key) w.group
key_in w View key = w.chosen (field_at 0 key)

abbrev pub row_in : Circle → (t : Table) → RowOf t → Bool
row_in w t r = key_in w t (values_of t r)

-- an edit is handed a row, where it is a create or a change, or a key alone
abbrev pub is_row : Shape → Bool
is_row Row = true
is_row Key = false

abbrev pub hands_row : Edit → Bool
hands_row e = is_row (shape_of e.operation)

-- Document 01: "An edit is of the circle by what it is handed, accepted or not, its row held or not: any context row, a mapping row
-- whose principal is a member, an access row of the group, a view row of a chosen name." A row begins with its key's fields, and a removal is
-- handed the key alone. Torn bytes are read as far as they go; such an edit is answered 7 whatever the rows.
abbrev pub of_circle : Circle → Edit → Bool
of_circle w e = key_in w e.table (values (key_fields e.table) e.bytes)

-- ---- "Let both hold the same member calls and the same owner's edits of the circle in the same order, whatever the others sent."

abbrev pub is_member : Circle → Caller → Bool
is_member w c = w.member c.security_model c.security_name

-- Document 01: "A member call is a decision request or an edit made with a member's model and security name, at whatever level."
-- "The shared calls are the member calls and the owner's edits of the circle." Document 02 makes a member's walk one of them (ticket 1), and a member's
-- set of edits (ticket 7).
abbrev pub shared : Circle → Call → Bool
shared w (ask q) = w.member q.security_model q.security_name
shared w (owner e) = of_circle w e
shared w (by c e) = is_member w c
shared w (by_set c es) = is_member w c
shared w (walk c identifier) = is_member w c

-- picked out of a list in order, each with its answer
abbrev pub picked : Circle → List Told → List Told
picked w ts = keep (λ (t : Told). shared w t.0) ts

-- ---- the conditions on a call and its answer

abbrev pub implies : Bool → Bool → Bool
implies a b = not a || b

-- "Let every member's edit in both be of a circle row." Document 02, ticket 7: "A member's set belongs to the circle's lists when all its rows do".
abbrev pub stays_inside : Circle → Call → Bool
stays_inside w (ask q) = true
stays_inside w (owner e) = true
stays_inside w (by c e) = implies (is_member w c) (of_circle w e)
stays_inside w (by_set c es) = implies (is_member w c) (every (of_circle w) es)
stays_inside w (walk c identifier) = true

-- "Let the members' and the owner's edits of the circle" pass a test: of a set, each of its edits
abbrev pub insiders_edit : Circle → (Edit → Bool) → Call → Bool
insiders_edit w test (ask q) = true
insiders_edit w test (owner e) = implies (of_circle w e) (test e)
insiders_edit w test (by c e) = implies (is_member w c && of_circle w e) (test e)
insiders_edit w test (by_set c es) = implies (is_member w c) (every (λ e. implies (of_circle w e) (test e)) es)
insiders_edit w test (walk c identifier) = true

-- the row that an edit is handed passes a test. Document 01: "A removal is handed a key alone and breaks neither" condition.
abbrev pub hands_such : ((t : Table) → RowOf t → Bool) → Edit → Bool
hands_such test e = implies (hands_row e) (test e.table (row_of e.table e.bytes))

-- ".. map members to that group alone ..": of a mapping row
abbrev pub maps_to_group : Circle → (t : Table) → RowOf t → Bool
maps_to_group w Context r = true
maps_to_group w Mapping r = same r.group_name w.group
maps_to_group w Access r = true
maps_to_group w View r = true

abbrev pub keeps_to_group : Circle → Edit → Bool
keeps_to_group w e = hands_such (maps_to_group w) e

-- ".. and its access rows to chosen views or the empty one ..". Document 01: "for read, write and notify names alike".
abbrev pub chosen_or_empty : Circle → List ℕ → Bool
chosen_or_empty w [] = true
chosen_or_empty w (x ∷ name) = w.chosen (x ∷ name)

abbrev pub names_chosen : Circle → AccessRow → Bool
names_chosen w r = chosen_or_empty w r.read_view_name && chosen_or_empty w r.write_view_name && chosen_or_empty w r.notify_view_name

abbrev pub gives_chosen : Circle → (t : Table) → RowOf t → Bool
gives_chosen w Context r = true
gives_chosen w Mapping r = true
gives_chosen w Access r = names_chosen w r
gives_chosen w View r = true

abbrev pub keeps_to_views : Circle → Edit → Bool
keeps_to_views w e = hands_such (gives_chosen w) e

-- ".. and none of their puts there be answered 'table full' ..": 9, the number of no other case of an edit's answer. Document 02, ticket 6: "Where the
-- circle's condition says put, it now says create." Ticket 7: "a member's set answered 9 breaks the same condition as a single create"; it has one.
abbrev pub finds_room : Reply → Edit → Bool
finds_room r e = implies (is_create e.operation) (not (eqb (reply_number r) 9))

-- "Let other principals have no edit accepted in the circle ..": 0, likewise. Document 02, ticket 7: "an accepted set of another principal counts there
-- as an accepted edit of each of its rows".
abbrev pub refuses_others : Circle → Call → Reply → Bool
refuses_others w (ask q) r = true
refuses_others w (owner e) r = true
refuses_others w (by c e) r = implies (not (is_member w c) && of_circle w e) (not (eqb (reply_number r) 0))
refuses_others w (by_set c es) r = implies (not (is_member w c) && any (of_circle w) es) (not (eqb (reply_number r) 0))
refuses_others w (walk c identifier) r = true

-- Document 02, ticket 1: "when the member's view refuses every instance outside the circle, held or not": of every table, legal key and listed
-- column, by the tables that the walk finds
abbrev pub RefusesOutside : Circle → Tables → Caller → Type 0
RefusesOutside w ts c =
    (t : Table) (key : List (List ℕ)) (column : ℕ) → legals (key_fields t) key ≡ true → lists t column ≡ true → key_in w t key ≡ false
    → may_read ts c (instance t column (index (key_fields t) key)) ≡ false

abbrev pub Confined : Circle → Tables → Call → Type 0
Confined w ts (ask q) = Unit {0}
Confined w ts (owner e) = Unit {0}
Confined w ts (by c e) = Unit {0}
Confined w ts (by_set c es) = Unit {0}
Confined w ts (walk c identifier) = is_member w c ≡ true → RefusesOutside w ts c

abbrev pub WalksConfined : Circle → {s end : List ℕ} {ts : List Told} → Run s ts end → Type 0
WalksConfined w run = Along (λ found c r. (ts : Tables) → held found ≡ some ts → Confined w ts c) run

-- ---- the conditions on two lists

-- each call of both lists passes a test of the call and its answer
abbrev pub InBoth : (Call → Reply → Bool) → {s t s' t' : List ℕ} {xs ys : List Told} → Run s xs s' → Run t ys t' → Type 0
InBoth test rx ry = Along (λ found c r. test c r ≡ true) rx × Along (λ found c r. test c r ≡ true) ry

pub record Conditions (w : Circle) {s t s' t' : List ℕ} {xs ys : List Told} (rx : Run s xs s') (ry : Run t ys t') : Type 0 where
  -- "Let both hold the same member calls and the same owner's edits of the circle in the same order, whatever the others sent."
  pub same_calls : calls (picked w xs) ≡ calls (picked w ys)
  -- "Let every member's edit in both be of a circle row."
  pub members_inside : InBoth (λ c r. stays_inside w c) rx ry
  -- "Let the members' and the owner's edits of the circle map members to that group alone ..
  pub members_grouped : InBoth (λ c r. insiders_edit w (keeps_to_group w) c) rx ry
  -- .. and its access rows to chosen views or the empty one, ..
  pub views_chosen : InBoth (λ c r. insiders_edit w (keeps_to_views w) c) rx ry
  -- .. and none of their" creates "there be answered 'table full' in either list."
  pub never_full : InBoth (λ c r. insiders_edit w (finds_room r) c) rx ry
  -- "Let other principals have no edit accepted in the circle in either list."
  pub others_refused : InBoth (λ c r. refuses_others w c r) rx ry
  -- Document 02: "A member's walk comes under the circle's promise when the member's view refuses every instance outside the circle, held or not."
  pub walks_confined : WalksConfined w rx × WalksConfined w ry

-- ---- "Then each member call and each owner's edit of the circle has the same answer in both lists, and the circle's rows end equal."

-- the same row at an index, or none
abbrev pub Alike : {R : Type 0} → (R → List ℕ) → List ℕ → List R → List R → Type 0
Alike index_of i rs ss = row_at index_of i rs ≡ row_at index_of i ss

-- Document 01: "At the end both stores hold rows at the same circle keys, with equal fields. Other rows and unused room aren't compared."
pub record SameRows (w : Circle) (s t : List ℕ) : Type 0 where
  pub one : Tables
  pub other : Tables
  pub one_held : held s ≡ some one
  pub other_held : held t ≡ some other
  -- every context row
  pub contexts : (name : List ℕ) → Alike context_index (index context_key (name ∷ [])) one.vacm_context_table other.vacm_context_table
  -- the members' mapping rows
  pub mappings : (model : ℕ) (name : List ℕ) → w.member model name ≡ true
      → Alike mapping_index (index mapping_key ((model ∷ []) ∷ name ∷ [])) one.vacm_security_to_group_table other.vacm_security_to_group_table
  -- the group's access rows
  pub accesses : (prefix : List ℕ) (model level : ℕ)
      → Alike access_index (index access_key (w.group ∷ prefix ∷ (model ∷ []) ∷ (level ∷ []) ∷ []))
      one.vacm_access_table other.vacm_access_table
  -- the view rows of chosen names
  pub views : (name subtree : List ℕ) → w.chosen name ≡ true
      → Alike view_index (index view_key (name ∷ subtree ∷ [])) one.vacm_view_tree_family_table other.vacm_view_tree_family_table

-- demand 3, of any two lists of any length
abbrev pub Isolated : Circle → Type 0
Isolated w =
    (s t s' t' : List ℕ) (xs ys : List Told) → Fresh s → Fresh t → (rx : Run s xs s') (ry : Run t ys t') → Conditions w rx ry
    → (picked w xs ≡ picked w ys) × SameRows w s' t'

-- ---- the same from other starts: two stores whose circles agree, fresh or not

-- the rows of the circle are such as the conditions let members and the owner put there
abbrev pub CirclePasses : Circle → (t : Table) → (RowOf t → Bool) → List (RowOf t) → Type 0
CirclePasses w t test rs = every (λ r. implies (row_in w t r) (test r)) rs ≡ true

pub record Settled (w : Circle) (t : Tables) : Type 0 where
  -- members are mapped to the group alone
  pub members_grouped : CirclePasses w Mapping (maps_to_group w Mapping) t.vacm_security_to_group_table
  -- the group's access rows name chosen views or none
  pub views_chosen : CirclePasses w Access (gives_chosen w Access) t.vacm_access_table

pub record Agreeing (w : Circle) (s t : List ℕ) : Type 0 where
  pub same_rows : SameRows w s t
  pub one_settled : Settled w same_rows.one
  pub other_settled : Settled w same_rows.other

-- and the stores agree again at the end, so that lists may follow
abbrev pub IsolatedFrom : Circle → Type 0
IsolatedFrom w =
    (s t s' t' : List ℕ) (xs ys : List Told) → Agreeing w s t → (rx : Run s xs s') (ry : Run t ys t') → Conditions w rx ry
    → (picked w xs ≡ picked w ys) × Agreeing w s' t'
