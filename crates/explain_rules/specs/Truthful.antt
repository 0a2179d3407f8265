-- What an explanation means (document 02, ticket 5), sentence by sentence, for any tables and request: "The explanation must be true".
-- Proved in proofs/Truthful.antt. Assumes nothing.
use Rattle.std.specs.Prelude.{◌≡◌, ◌⊎◌, true, false, cond, List, [], ◌∷◌, ℕ, eqb, length}
use Rattle.std.proofs.Math.Option.{Option, none, some}
use Rattle.std.specs.Prelude.{Ok, Err}
use Rattle.answers.specs.Types.{Answer}
use Rattle.answers.specs.declared.Cause.TheVariants.{NoSuchContext, NoGroupName, NoAccessEntry, NoSuchView, NotInView}
use Rattle.answers.specs.declared.Decision.TheVariants.{Allowed, Refused}
use Rattle.answers.specs.declared.Fault.TheVariants.{OutOfRange}
use Rattle.numbers.specs.Lists.{Among, NoneOf}
use Rattle.numbers.specs.Order.{before}
use Rattle.rows.specs.Rows.{MappingRow, AccessRow, ViewRow}
use Rattle.rows.specs.Tables.{Tables}
use Rattle.decision_steps.specs.Request.{Request, legal_request}
use Rattle.decision_steps.specs.Decision.{active, bears_context, maps_principal, candidate, view_for, in_view, matches, included, answer}
use Rattle.explain_rules.specs.Explanation.{Explanation, explanation}

-- ---- "each row shown is held and active and was picked at its step"; "a row that was a candidate and lost is never shown as the chosen one"

-- step 2: it maps the principal
pub record MappingTrue (t : Tables) (q : Request) (m : MappingRow) : Type 0 where
  pub is_held : Among m t.vacm_security_to_group_table
  pub is_active : m.status ≡ active
  pub maps : maps_principal q.security_model q.security_name m ≡ true

-- what ranks candidates: whether it names the model itself, then the prefix's length, then the level
abbrev pub rank : ℕ → AccessRow → List ℕ
rank model a = cond (eqb a.security_model model) 1 0 ∷ length a.context_prefix ∷ a.security_level ∷ []

-- step 3, for the group: it is a candidate, and none outranks it
pub record AccessTrue (t : Tables) (q : Request) (group : List ℕ) (a : AccessRow) : Type 0 where
  pub is_held : Among a t.vacm_access_table
  pub is_active : a.status ≡ active
  pub is_candidate : candidate group q.security_model q.security_level q.context_name a ≡ true
  pub won : (b : AccessRow) → Among b t.vacm_access_table → candidate group q.security_model q.security_level q.context_name b ≡ true
      → before (rank q.security_model a) (rank q.security_model b) ≡ false

-- step 5, in the view of the name: it matches, and none that matches is longer or, at equal length, greater
pub record ViewTrue (t : Tables) (q : Request) (name : List ℕ) (r : ViewRow) : Type 0 where
  pub is_held : Among r t.vacm_view_tree_family_table
  pub is_active : r.status ≡ active
  pub is_in_view : in_view name r ≡ true
  pub does_match : matches q.variable_name r ≡ true
  pub won : (s : ViewRow) → Among s t.vacm_view_tree_family_table → in_view name s ≡ true → matches q.variable_name s ≡ true
      → before (length r.subtree ∷ r.subtree) (length s.subtree ∷ s.subtree) ≡ false

-- ---- "as far as the steps got"; "where the cause is a missing row, no row that counts would serve"

-- 4 for either of two reasons: no view is named, or no active row bears the name
abbrev pub NoView : Tables → List ℕ → Type 0
NoView t name = (name ≡ []) ⊎ NoneOf (in_view name) t.vacm_view_tree_family_table

-- for each answer the rows that are shown, and why: there is no other case
pub data Because (t : Tables) (q : Request) : Answer → Option MappingRow → Option AccessRow → Option ViewRow → Type 0 where
  out_of_range : legal_request q ≡ false → Because t q (Err OutOfRange) none none none
  no_context : NoneOf (bears_context q.context_name) t.vacm_context_table → Because t q (Ok (Refused NoSuchContext)) none none none
  no_mapping : NoneOf (maps_principal q.security_model q.security_name) t.vacm_security_to_group_table
      → Because t q (Ok (Refused NoGroupName)) none none none
  no_candidate : {m : MappingRow}
      → NoneOf (candidate m.group_name q.security_model q.security_level q.context_name) t.vacm_access_table
      → Because t q (Ok (Refused NoAccessEntry)) (some m) none none
  no_view : {m : MappingRow} {a : AccessRow} → NoView t (view_for q.view_type a) → Because t q (Ok (Refused NoSuchView)) (some m) (some a) none
  no_match : {m : MappingRow} {a : AccessRow}
      → ((r : ViewRow) → Among r t.vacm_view_tree_family_table → in_view (view_for q.view_type a) r ≡ true → matches q.variable_name r ≡ false)
      → Because t q (Ok (Refused NotInView)) (some m) (some a) none
  is_excluded : {m : MappingRow} {a : AccessRow} {r : ViewRow} → (r.family_type ≡ included → ⊥)
      → Because t q (Ok (Refused NotInView)) (some m) (some a) (some r)
  is_included : {m : MappingRow} {a : AccessRow} {r : ViewRow} → r.family_type ≡ included → Because t q (Ok Allowed) (some m) (some a) (some r)

-- ---- of tables that are sound

pub record Truthful (t : Tables) (q : Request) (e : Explanation) : Type 0 where
  -- "the answer is the decision's"
  pub answer_is : e.answer ≡ answer (some t) q
  pub mapping_true : (m : MappingRow) → e.mapping ≡ some m → MappingTrue t q m
  pub access_true : (m : MappingRow) (a : AccessRow) → e.mapping ≡ some m → e.access ≡ some a → AccessTrue t q m.group_name a
  pub view_true : (a : AccessRow) (r : ViewRow) → e.access ≡ some a → e.view ≡ some r → ViewTrue t q (view_for q.view_type a) r
  pub because : Because t q e.answer e.mapping e.access e.view

abbrev pub ExplainsTruly : Type 0
ExplainsTruly = (t : Tables) (q : Request) → Truthful t q (explanation (some t) q)
