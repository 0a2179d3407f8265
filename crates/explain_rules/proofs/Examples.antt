-- Explanations of requests to small tables, by computation: every answer with the rows behind it, beside rows that do not count. Assumes nothing.
use mathlib.Core.Path.{◌≡◌, refl}
use mathlib.Core.List.{List, [], ◌∷◌}
use mathlib.Core.Option.{Option, none, some}
use Prim.Native.Nat.{ℕ}
use Rattle.std.specs.Prelude.{Ok, Some, None}
use Rattle.answers.specs.declared.Cause.TheVariants.{NoSuchContext, NoGroupName, NoAccessEntry, NoSuchView, NotInView}
use Rattle.answers.specs.declared.Decision.{Decision}
use Rattle.answers.specs.declared.Decision.TheVariants.{Allowed, Refused}
use Rattle.answers.specs.declared.Fault.TheVariants.{NotSound, OutOfRange}
use Rattle.numbers.specs.Order.{same, before, begins}
use Rattle.rows.specs.Rows.{MappingRow, AccessRow, ViewRow}
use Rattle.rows.specs.Tables.{Tables}
use Rattle.decision_steps.specs.Request.{asked, read, write, notify, legal_request}
use Rattle.decision_steps.specs.Decision.{bears_context, maps_principal, context_fits, candidate, chosen_access, view_for, in_view, mask_bit, agrees, matches}
use Rattle.decision_steps.specs.Decision.{chosen_view, decision, mapping_row, access_row}
use Rattle.explain_rules.specs.Explanation.{Explanation, view_picked, explained, unexplained, explanation, shown, lent}

-- names of one letter
abbrev ann : List ℕ
ann = 97 ∷ []

abbrev bob : List ℕ
bob = 98 ∷ []

abbrev cal : List ℕ
cal = 99 ∷ []

abbrev leads : List ℕ
leads = 108 ∷ []

abbrev base : List ℕ
base = 118 ∷ []

abbrev wide : List ℕ
wide = 119 ∷ []

-- 1 is active, 2 notInService; 1 is included, 2 excluded
abbrev maps : List ℕ → List ℕ → ℕ → MappingRow
maps name group status = record { security_model = 3; security_name = name; group_name = group; storage_type = 3; status = status }

abbrev accesses : ℕ → ℕ → List ℕ → AccessRow
accesses model level view = record {
  group_name = leads;
  context_prefix = [];
  security_model = model;
  security_level = level;
  context_match = 1;
  read_view_name = view;
  write_view_name = [];
  notify_view_name = bob;
  storage_type = 3;
  status = 1;
}

abbrev family : List ℕ → List ℕ → ℕ → ℕ → ViewRow
family name subtree type status = record { view_name = name; subtree = subtree; mask = []; family_type = type; storage_type = 3; status = status }

-- three candidates, of which the second is chosen at level 3: the third names no model, and the first is lower
abbrev tables : Tables
tables = record {
  vacm_context_table = record { context_name = [] } ∷ [];
  vacm_security_to_group_table = maps ann leads 1 ∷ maps bob leads 2 ∷ maps cal cal 1 ∷ [];
  vacm_access_table = accesses 3 1 wide ∷ accesses 3 2 base ∷ accesses 0 3 wide ∷ [];
  vacm_view_tree_family_table = family base (1 ∷ []) 1 1 ∷ family base (1 ∷ 2 ∷ []) 2 1 ∷ family base (1 ∷ 2 ∷ 3 ∷ []) 1 2 ∷ family wide (1 ∷ []) 1 1 ∷ [];
}

unfoldable pub told : List ℕ → ℕ → ℕ → List ℕ → List ℕ → Explanation
unfolding explained view_picked mapping_row access_row decision legal_request bears_context maps_principal context_fits candidate chosen_access view_for in_view mask_bit
    agrees matches chosen_view same before begins
told name level view context variable = explanation (some tables) (asked 3 name level view context variable)

abbrev answered : Decision → Option MappingRow → Option AccessRow → Option ViewRow → Explanation
answered d mapping access view = record { answer = Ok d; mapping = mapping; access = access; view = view }

pub allowed : told ann 3 read [] (1 ∷ 1 ∷ []) ≡ answered Allowed (some (maps ann leads 1)) (some (accesses 3 2 base)) (some (family base (1 ∷ []) 1 1))
unfolding told
allowed = refl

-- the excluded row decides; a longer one is out of service, and the view of the lower candidate would include the variable
pub excluded : told ann 3 read [] (1 ∷ 2 ∷ 3 ∷ [])
    ≡ answered (Refused NotInView) (some (maps ann leads 1)) (some (accesses 3 2 base)) (some (family base (1 ∷ 2 ∷ []) 2 1))
unfolding told
excluded = refl

pub no_match : told ann 3 read [] (2 ∷ []) ≡ answered (Refused NotInView) (some (maps ann leads 1)) (some (accesses 3 2 base)) none
unfolding told
no_match = refl

-- 4 for its two reasons: the row names no view, or one without active rows
pub no_name : told ann 3 write [] (1 ∷ []) ≡ answered (Refused NoSuchView) (some (maps ann leads 1)) (some (accesses 3 2 base)) none
unfolding told
no_name = refl

pub no_rows : told ann 3 notify [] (1 ∷ []) ≡ answered (Refused NoSuchView) (some (maps ann leads 1)) (some (accesses 3 2 base)) none
unfolding told
no_rows = refl

pub no_candidate : told cal 3 read [] (1 ∷ []) ≡ answered (Refused NoAccessEntry) (some (maps cal cal 1)) none none
unfolding told
no_candidate = refl

pub out-of-service : told bob 3 read [] (1 ∷ []) ≡ answered (Refused NoGroupName) none none none
unfolding told
out-of-service = refl

pub no_context : told ann 3 read cal (1 ∷ []) ≡ answered (Refused NoSuchContext) none none none
unfolding told
no_context = refl

pub out_of_range : told ann 4 read [] (1 ∷ []) ≡ unexplained OutOfRange
unfolding told
out_of_range = refl

pub not_sound : explanation none (asked 3 ann 3 read [] (1 ∷ [])) ≡ unexplained NotSound
not_sound = refl

-- a row of two bytes in a room of three, and none
pub row-lent : lent (some (1 ∷ 2 ∷ [])) (7 ∷ 8 ∷ 9 ∷ []) ≡ 1 ∷ 2 ∷ 9 ∷ []
row-lent = refl

pub row-counted : shown (some (1 ∷ 2 ∷ [])) ≡ Some 2
row-counted = refl

pub none_lent : lent none (7 ∷ 8 ∷ 9 ∷ []) ≡ 7 ∷ 8 ∷ 9 ∷ []
none_lent = refl

pub none-counted : shown none ≡ None
none-counted = refl
