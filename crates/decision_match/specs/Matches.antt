-- The row that decides, handed back: step 5's choice among the active rows of a view, and step 3's among the access rows (RFC 3415, section 3.2).
-- Assumes nothing.
use Rattle.std.specs.Prelude.{◌≡◌, Bool, true, cond, ◌&&◌, List, [], ◌∷◌, ℕ, leb, length}
use Rattle.std.proofs.Math.Option.{Option, none, some}
use Rattle.std.specs.Prelude.{Ok, Err, Some, None}
use Rattle.answers.specs.declared.Fault.{Fault}
use Rattle.answers.specs.declared.Fault.TheVariants.{NotSound, OutOfRange}
use Rattle.numbers.specs.Laid.{laid}
use Rattle.rows.specs.declared.Table.{Table}
use Rattle.rows.specs.declared.Table.TheVariants.{Access, View}
use Rattle.rows.specs.Fields.{within, legals, row_bytes}
use Rattle.rows.specs.Rows.{AccessRow, ViewRow, key_fields, model_max}
use Rattle.rows.specs.Tables.{Tables}
use Rattle.image.specs.Store.{held}
use Rattle.decision_steps.specs.Request.{longest_name, most_parts, no_auth_no_priv, auth_priv}
use Rattle.decision_steps.specs.Decision.{chosen_access, view_rows, chosen_view}
use Rattle.decision_match.specs.Types.{ViewMatch}
use Rattle.decision_match.specs.Types.{AccessMatch}
use Rattle.decision_match.specs.Numbers.{view_match_number, access_match_number}

-- what such a call comes to: a fault, or the row chosen, if any is
pub data Choice (R : Type 0) : Type 0 where
  faulty : Fault → Choice R
  chosen : Option R → Choice R

-- 6 before 7 before the choice
abbrev pub choice : {R : Type 0} → Option Tables → Bool → (Tables → Option R) → Choice R
choice none legal choose = faulty NotSound
choice (some t) legal choose = cond legal (chosen (choose t)) (faulty OutOfRange)

-- ---- the row of a view that decides on a variable

-- the lengths of the view's name and the variable
abbrev pub legal_view : ℕ → ℕ → Bool
legal_view name variable = within 1 longest_name name && within 1 most_parts variable

unfoldable pub view_choice : Option Tables → (name variable : List ℕ) → Choice ViewRow
view_choice tables name variable =
    choice tables (legal_view (length name) (length variable)) (λ t. chosen_view variable (view_rows name t.vacm_view_tree_family_table))

-- ---- the access row for a group, a context, a model and a level

-- the lengths of the group's and the context's name, and the numbers
abbrev pub legal_access : ℕ → ℕ → ℕ → ℕ → Bool
legal_access group context model level =
    within 1 longest_name group && leb context longest_name && within 1 model_max model && within no_auth_no_priv auth_priv level

unfoldable pub access_choice : Option Tables → (group context : List ℕ) (model level : ℕ) → Choice AccessRow
access_choice tables group context model level =
    choice tables (legal_access (length group) (length context) model level) (λ t. chosen_access group model level context t.vacm_access_table)

-- ---- the fields of their keys, and a key's bytes as an image has them

abbrev pub view_key_of : ViewRow → List (List ℕ)
view_key_of r = r.view_name ∷ r.subtree ∷ []

abbrev pub access_key_of : AccessRow → List (List ℕ)
access_key_of r = r.group_name ∷ r.context_prefix ∷ (r.security_model ∷ []) ∷ (r.security_level ∷ []) ∷ []

abbrev pub key_bytes : Table → List (List ℕ) → List ℕ
key_bytes t fields = row_bytes (key_fields t) fields

-- ---- the answers

abbrev pub view_match : Choice ViewRow → ViewMatch
view_match (faulty f) = Err f
view_match (chosen none) = (Ok None)
view_match (chosen (some r)) = Ok (Some ((length (key_bytes View (view_key_of r))), r.family_type))

abbrev pub access_match : Choice AccessRow → AccessMatch
access_match (faulty f) = Err f
access_match (chosen none) = (Ok None)
access_match (chosen (some r)) = Ok (Some (length (key_bytes Access (access_key_of r))))

-- the lent room: the key, and behind it as found; a fault and none leave it as found
abbrev pub lent : {R : Type 0} → (R → List ℕ) → Choice R → List ℕ → List ℕ
lent key (faulty f) found = found
lent key (chosen none) found = found
lent key (chosen (some r)) found = laid 0 (key r) found

-- of what was chosen, if anything was
abbrev pub OnChosen : {R : Type 0} → (R → Type 0) → Choice R → Type 0
OnChosen P (faulty f) = Unit {0}
OnChosen P (chosen none) = Unit {0}
OnChosen P (chosen (some r)) = P r

-- a choice among the rows of table t, with the key of these fields, handed back: the answer and its number, the lent room, and that the key is legal
pub record HandsBack {R A : Type 0} (t : Table) (key_of : R → List (List ℕ)) (answer : Choice R → A) (number : A → ℕ) (c : Choice R) (found after : List ℕ)
    (r : A) : Type 0 where
  pub answer_is : r ≡ answer c
  pub number_is : number r ≡ number (answer c)
  pub room_is : after ≡ lent (λ row. key_bytes t (key_of row)) c found
  pub key_legal : OnChosen (λ row. legals (key_fields t) (key_of row) ≡ true) c

abbrev pub HandsView : Choice ViewRow → (found after : List ℕ) → ViewMatch → Type 0
HandsView c found after r = HandsBack View view_key_of view_match view_match_number c found after r

abbrev pub HandsAccess : Choice AccessRow → (found after : List ℕ) → AccessMatch → Type 0
HandsAccess c found after r = HandsBack Access access_key_of access_match access_match_number c found after r

-- ---- the calls

abbrev pub MatchesView : (store name variable found after : List ℕ) → ViewMatch → Type 0
MatchesView store name variable found after r = HandsView (view_choice (held store) name variable) found after r

abbrev pub MatchesAccess : (store group context : List ℕ) (model level : ℕ) (found after : List ℕ) → AccessMatch → Type 0
MatchesAccess store group context model level found after r = HandsAccess (access_choice (held store) group context model level) found after r
