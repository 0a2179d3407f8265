-- RFC 3415, section 3.2, Elements of Procedure, as document 01, "The decision", gives them; over the rows held. Assumes nothing.
use Rattle.std.specs.Prelude.{Bool, true, false, cond, not, ◌&&◌, ◌||◌, List, [], ◌∷◌, ℕ, suc, ◌-◌, ◌/◌, ◌%◌, ◌^◌, eqb, leb, length, get_or}
use Rattle.std.proofs.Math.Option.{Option, none, some}
use Rattle.std.specs.Prelude.{Ok, Err}
use Rattle.answers.specs.Types.{Answer}
use Rattle.answers.specs.declared.Cause.{Cause}
use Rattle.answers.specs.declared.Cause.TheVariants.{NoSuchContext, NoGroupName, NoAccessEntry, NoSuchView, NotInView}
use Rattle.answers.specs.declared.Decision.{Decision}
use Rattle.answers.specs.declared.Decision.TheVariants.{Allowed, Refused}
use Rattle.answers.specs.declared.Fault.TheVariants.{NotSound, OutOfRange}
use Rattle.numbers.specs.Lists.{keep, every, any, first, find, top}
use Rattle.numbers.specs.Order.{same, before, begins}
use Rattle.rows.specs.Rows.{ContextRow, MappingRow, AccessRow, ViewRow}
use Rattle.rows.specs.Tables.{Tables}
use Rattle.decision_steps.specs.Request.{Request, legal_request, read, write}

-- RowStatus: active is 1, and only active rows take part
abbrev pub active : ℕ
active = 1

abbrev pub is_active : ℕ → Bool
is_active status = eqb status active

-- ---- step 1: the context

unfoldable pub bears_context : List ℕ → ContextRow → Bool
bears_context name c = same c.context_name name

-- ---- step 2: the group of the principal

unfoldable pub maps_principal : ℕ → List ℕ → MappingRow → Bool
maps_principal model name m = eqb m.security_model model && same m.security_name name && is_active m.status

-- ---- step 3: the access row

-- vacmAccessContextMatch: exact is 1, prefix 2
abbrev pub exact : ℕ
exact = 1

unfoldable pub context_fits : ℕ → List ℕ → List ℕ → Bool
context_fits match prefix name = cond (eqb match exact) (same prefix name) (begins prefix name)

-- the model of a row that serves any
abbrev pub any_model : ℕ
any_model = 0

unfoldable pub candidate : List ℕ → ℕ → ℕ → List ℕ → AccessRow → Bool
candidate group model level context a =
    same a.group_name group
    && is_active a.status
    && context_fits a.context_match a.context_prefix context
    && (eqb a.security_model any_model || eqb a.security_model model)
    && leb a.security_level level

-- where a candidate names the model itself, those for any drop out
abbrev pub of_model : ℕ → List AccessRow → List AccessRow
of_model model rs = cond (any (λ a. eqb a.security_model model) rs) (keep (λ a. eqb a.security_model model) rs) rs

-- then only the longest prefix remains; then the highest level
abbrev pub longest_prefix : List AccessRow → List AccessRow
longest_prefix rs = top (λ a. length a.context_prefix) rs

abbrev pub highest_level : List AccessRow → List AccessRow
highest_level rs = top (λ a. a.security_level) rs

unfoldable pub chosen_access : List ℕ → ℕ → ℕ → List ℕ → List AccessRow → Option AccessRow
chosen_access group model level context rs =
    first (highest_level (longest_prefix (of_model model (keep (candidate group model level context) rs))))

-- ---- step 4: the view

unfoldable pub view_for : ℕ → AccessRow → List ℕ
view_for view_type a = cond (eqb view_type read) a.read_view_name (cond (eqb view_type write) a.write_view_name a.notify_view_name)

unfoldable pub in_view : List ℕ → ViewRow → Bool
in_view name r = same r.view_name name && is_active r.status

-- the rows of the view, the empty name meaning no view
abbrev pub view_rows : List ℕ → List ViewRow → List ViewRow
view_rows [] rs = []
view_rows (x ∷ name) rs = keep (in_view (x ∷ name)) rs

-- ---- step 5: the variable in the view

-- bit i of a mask: the first is the highest bit of the first octet; missing bits are 1, surplus bits are ignored
unfoldable pub mask_bit : List ℕ → ℕ → Bool
mask_bit mask i = eqb (get_or mask (i / 8) 255 / 2 ^ (7 - i % 8) % 2) 1

-- the variable has at least as many sub-identifiers as the subtree and agrees wherever the mask bit is 1
unfoldable pub agrees : List ℕ → ℕ → List ℕ → List ℕ → Bool
agrees mask i [] xs = true
agrees mask i (t ∷ ts) [] = false
agrees mask i (t ∷ ts) (x ∷ xs) = (not (mask_bit mask i) || eqb t x) && agrees mask (suc i) ts xs

unfoldable pub matches : List ℕ → ViewRow → Bool
matches variable r = agrees r.mask 0 r.subtree variable

-- the longest subtree; at equal length the lexicographically greatest, before no other
abbrev pub longest_subtree : List ViewRow → List ViewRow
longest_subtree rs = top (λ r. length r.subtree) rs

abbrev pub greatest_subtree : List ViewRow → Option ViewRow
greatest_subtree rs = find (λ r. every (λ s. not (before r.subtree s.subtree)) rs) rs

unfoldable pub chosen_view : List ℕ → List ViewRow → Option ViewRow
chosen_view variable rs = greatest_subtree (longest_subtree (keep (matches variable) rs))

-- vacmViewTreeFamilyType: included is 1, excluded 2
abbrev pub included : ℕ
included = 1

-- ---- the steps, from the last to the first: each goes on to the next with what it finds, and refuses where it finds nothing

abbrev pub or_refused : {A : Type 0} → Cause → Option A → (A → Decision) → Decision
or_refused cause none next = Refused cause
or_refused cause (some x) next = next x

abbrev pub by_type : ViewRow → Decision
by_type r = cond (eqb r.family_type included) Allowed (Refused NotInView)

abbrev pub step5 : List ℕ → List ViewRow → Decision
step5 variable rs = or_refused NotInView (chosen_view variable rs) by_type

-- a view is there where it has rows
abbrev pub if_any : List ViewRow → Option (List ViewRow)
if_any [] = none
if_any (r ∷ rs) = some (r ∷ rs)

abbrev pub step4 : List ℕ → List ℕ → List ViewRow → Decision
step4 variable name rs = or_refused NoSuchView (if_any (view_rows name rs)) (step5 variable)

abbrev pub step3 : List ℕ → Request → Tables → Decision
step3 group q t =
    or_refused NoAccessEntry (chosen_access group q.security_model q.security_level q.context_name t.vacm_access_table)
    (λ a. step4 q.variable_name (view_for q.view_type a) t.vacm_view_tree_family_table)

abbrev pub step2 : Request → Tables → Decision
step2 q t =
    or_refused NoGroupName (find (maps_principal q.security_model q.security_name) t.vacm_security_to_group_table)
    (λ m. step3 m.group_name q t)

abbrev pub step1 : Request → Tables → Decision
step1 q t = or_refused NoSuchContext (find (bears_context q.context_name) t.vacm_context_table) (λ c. step2 q t)

unfoldable pub decision : Tables → Request → Decision
decision t q = step1 q t

-- ---- the decision in two parts: steps 1 to 4, the same for every variable, and step 5

-- what steps 1 to 4 come to: a cause, or the active rows of the view, at least one
pub data Authority : Type 0 where
  denied : Cause → Authority
  viewed : List ViewRow → Authority

abbrev pub or_denied : {A : Type 0} → Cause → Option A → (A → Authority) → Authority
or_denied cause none next = denied cause
or_denied cause (some x) next = next x

unfoldable pub authority : Tables → ℕ → List ℕ → ℕ → ℕ → List ℕ → Authority
authority t model name level view context =
    or_denied NoSuchContext (find (bears_context context) t.vacm_context_table) (λ c.
    or_denied NoGroupName (find (maps_principal model name) t.vacm_security_to_group_table) (λ m.
    or_denied NoAccessEntry (chosen_access m.group_name model level context t.vacm_access_table) (λ a.
    or_denied NoSuchView (if_any (view_rows (view_for view a) t.vacm_view_tree_family_table)) viewed)))

-- step 5 of a variable
abbrev pub by_authority : List ℕ → Authority → Decision
by_authority variable (denied cause) = Refused cause
by_authority variable (viewed rs) = step5 variable rs

-- the rows that steps 2 and 3 choose, none where the steps do not get there
abbrev pub if_found : {A B : Type 0} → Option A → (A → Option B) → Option B
if_found none next = none
if_found (some x) next = next x

unfoldable pub mapping_row : Tables → ℕ → List ℕ → List ℕ → Option MappingRow
mapping_row t model name context =
    if_found (find (bears_context context) t.vacm_context_table) (λ c. find (maps_principal model name) t.vacm_security_to_group_table)

unfoldable pub access_row : Tables → ℕ → List ℕ → ℕ → List ℕ → Option AccessRow
access_row t model name level context =
    if_found (mapping_row t model name context) (λ m. chosen_access m.group_name model level context t.vacm_access_table)

-- ---- the call: 6 before 7 before the steps

abbrev pub if_legal : Bool → Tables → Request → Answer
if_legal true t q = Ok (decision t q)
if_legal false t q = Err OutOfRange

-- on tables that are sound
abbrev pub answer_on : Tables → Request → Answer
answer_on t q = if_legal (legal_request q) t q

abbrev pub answer : Option Tables → Request → Answer
answer none q = Err NotSound
answer (some t) q = answer_on t q
