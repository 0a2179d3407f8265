-- Explaining an answer (document 02, ticket 5): "For any request give the answer with the rows behind it: mapping, access, view, as far as the steps
-- got." Over the rows held, and what the call promises. What is true of it is in specs/Truthful.antt. Assumes nothing.
use Rattle.std.specs.Prelude.{◌≡◌, true, cond, List, ℕ, length}
use Rattle.std.proofs.Math.Option.{Option, none, some, map}
use Rattle.std.specs.Prelude.{Ok, Err, Some, None}
use Rattle.answers.specs.Types.{Answer}
use Rattle.answers.specs.declared.Fault.{Fault}
use Rattle.answers.specs.declared.Fault.TheVariants.{NotSound, OutOfRange}
use Rattle.answers.specs.Numbers.{answer_number}
use Rattle.numbers.specs.Laid.{laid}
use Rattle.numbers.specs.Lists.{OnSome}
use Rattle.rows.specs.declared.Table.{Table}
use Rattle.rows.specs.declared.Table.TheVariants.{Mapping, Access, View}
use Rattle.rows.specs.Fields.{legals, row_bytes}
use Rattle.rows.specs.Rows.{MappingRow, AccessRow, ViewRow, row_fields, mapping_fields, access_fields, view_fields}
use Rattle.rows.specs.Tables.{Tables}
use Rattle.image.specs.Store.{held}
use Rattle.decision_steps.specs.Request.{Request, legal_request}
use Rattle.decision_steps.specs.Decision.{view_for, view_rows, chosen_view, decision, if_found, mapping_row, access_row}
use Rattle.explain_rules.specs.Types.{Shown}
use Rattle.explain_rules.specs.declared.Explained.{Explained}

-- ---- the rows behind an answer

pub record Explanation : Type 0 where
  pub answer : Answer
  pub mapping : Option MappingRow
  pub access : Option AccessRow
  pub view : Option ViewRow

-- what steps 2, 3 and 5 pick, none where the steps do not get there
abbrev pub mapping_picked : Tables → Request → Option MappingRow
mapping_picked t q = mapping_row t q.security_model q.security_name q.context_name

abbrev pub access_picked : Tables → Request → Option AccessRow
access_picked t q = access_row t q.security_model q.security_name q.security_level q.context_name

unfoldable pub view_picked : Tables → Request → Option ViewRow
view_picked t q = if_found (access_picked t q) (λ a. chosen_view q.variable_name (view_rows (view_for q.view_type a) t.vacm_view_tree_family_table))

unfoldable pub explained : Tables → Request → Explanation
explained t q = record { answer = Ok (decision t q); mapping = mapping_picked t q; access = access_picked t q; view = view_picked t q }

-- 6 and 7 show no rows
abbrev pub unexplained : Fault → Explanation
unexplained f = record { answer = Err f; mapping = none; access = none; view = none }

-- 6 before 7 before the steps
abbrev pub explanation : Option Tables → Request → Explanation
explanation none q = unexplained NotSound
explanation (some t) q = cond (legal_request q) (explained t q) (unexplained OutOfRange)

-- ---- what the call hands back

-- of a row's bytes, if one is shown: their number, and the lent room with them at its front; none leaves it as found
abbrev pub shown : Option (List ℕ) → Shown
shown none = None
shown (some bytes) = Some (length bytes)

abbrev pub lent : Option (List ℕ) → List ℕ → List ℕ
lent none found = found
lent (some bytes) found = laid 0 bytes found

-- a row of table t with these fields, if one is shown, in the form of the image
pub record Shows {R : Type 0} (t : Table) (fields_of : R → List (List ℕ)) (row : Option R) (found after : List ℕ) (r : Shown) : Type 0 where
  pub length_is : r ≡ shown (map (λ x. row_bytes (row_fields t) (fields_of x)) row)
  pub room_is : after ≡ lent (map (λ x. row_bytes (row_fields t) (fields_of x)) row) found
  pub legal : OnSome (λ x. legals (row_fields t) (fields_of x) ≡ true) row

-- three lent rooms
pub record Rooms : Type 0 where
  pub mapping : List ℕ
  pub access : List ℕ
  pub view : List ℕ

abbrev pub rooms_of : (mapping access view : List ℕ) → Rooms
rooms_of mapping access view = record { mapping = mapping; access = access; view = view }

-- the explanation e, handed back
pub record HandsBack (e : Explanation) (found after : Rooms) (r : Explained) : Type 0 where
  pub answer_is : r.answer ≡ e.answer
  pub number_is : answer_number r.answer ≡ answer_number e.answer
  pub mapping_is : Shows Mapping mapping_fields e.mapping found.mapping after.mapping r.mapping
  pub access_is : Shows Access access_fields e.access found.access after.access r.access
  pub view_is : Shows View view_fields e.view found.view after.view r.view

-- ---- the call

abbrev pub Explains : Request → (store : List ℕ) → (found after : Rooms) → Explained → Type 0
Explains q store found after r = HandsBack (explanation (held store) q) found after r
