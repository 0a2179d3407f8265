-- A principal's edits of one row judged, by computation, over tables in which its view includes some columns of the row's table alone.
-- A create or a change wants every column; the last, the first, all but one are too few. A removal wants the status and no other. Assumes nothing.
use mathlib.Core.Path.{◌≡◌, refl}
use mathlib.Core.List.{List, [], ◌∷◌, map}
use Prim.Native.Nat.{ℕ}
use Rattle.answers.specs.declared.Cause.TheVariants.{NoSuchView, NotInView}
use Rattle.answers.specs.declared.Decision.{Decision}
use Rattle.answers.specs.declared.Decision.TheVariants.{Allowed, Refused}
use Rattle.numbers.specs.Order.{same, before, begins}
use Rattle.rows.specs.declared.Shape.{Shape}
use Rattle.rows.specs.declared.Shape.TheVariants.{Row, Key}
use Rattle.rows.specs.declared.Table.{Table}
use Rattle.rows.specs.declared.Table.TheVariants.{Mapping, Access, View}
use Rattle.rows.specs.Rows.{ViewRow}
use Rattle.rows.specs.Tables.{Tables}
use Rattle.decision_steps.specs.Decision.{decision, bears_context, maps_principal, context_fits, candidate, chosen_access, view_for, in_view, mask_bit, agrees}
use Rattle.decision_steps.specs.Decision.{matches, chosen_view}
use Rattle.instance_encode.specs.Instances.{instance}
use Rattle.edit_rules.specs.Edits.{caller_of, judgement_at}

-- names of one letter
abbrev a : List ℕ
a = 97 ∷ []

abbrev b : List ℕ
b = 98 ∷ []

-- a column of a table, included in the view "a"
abbrev column : Table → ℕ → ViewRow
column t n = record { view_name = a; subtree = instance t n []; mask = []; family_type = 1; storage_type = 3; status = 1 }

-- "a" is of the group "b", which writes by the view "a", and in the empty context alone
abbrev granting : Table → List ℕ → Tables
granting t columns = record {
  vacm_context_table = record { context_name = [] } ∷ [];
  vacm_security_to_group_table = record { security_model = 3; security_name = a; group_name = b; storage_type = 3; status = 1 } ∷ [];
  vacm_access_table = record {
    group_name = b;
    context_prefix = [];
    security_model = 3;
    security_level = 1;
    context_match = 1;
    read_view_name = [];
    write_view_name = a;
    notify_view_name = [];
    storage_type = 3;
    status = 1;
  } ∷ [];
  vacm_view_tree_family_table = map (column t) columns;
}

-- the row's index makes no difference: no subtree goes into it
unfoldable pub judged : Table → List ℕ → Shape → Decision
unfolding judgement_at decision bears_context maps_principal context_fits candidate chosen_access view_for in_view mask_bit agrees matches chosen_view same before
    begins
judged t columns s = judgement_at (granting t columns) (caller_of 3 a 1) s t []

-- ---- a row is handed

pub every-column : judged Mapping (3 ∷ 4 ∷ 5 ∷ []) Row ≡ Allowed
unfolding judged
every-column = refl

pub every-column-of-access : judged Access (4 ∷ 5 ∷ 6 ∷ 7 ∷ 8 ∷ 9 ∷ []) Row ≡ Allowed
unfolding judged
every-column-of-access = refl

pub every-column-of-a-view : judged View (3 ∷ 4 ∷ 5 ∷ 6 ∷ []) Row ≡ Allowed
unfolding judged
every-column-of-a-view = refl

pub status-alone : judged Mapping (5 ∷ []) Row ≡ Refused NotInView
unfolding judged
status-alone = refl

pub first_alone : judged Access (4 ∷ []) Row ≡ Refused NotInView
unfolding judged
first_alone = refl

pub last-missing : judged View (3 ∷ 4 ∷ 5 ∷ []) Row ≡ Refused NotInView
unfolding judged
last-missing = refl

pub one-between-missing : judged Access (4 ∷ 5 ∷ 7 ∷ 8 ∷ 9 ∷ []) Row ≡ Refused NotInView
unfolding judged
one-between-missing = refl

-- causes 1 to 4 are the same at each column
pub no_view : judged Mapping [] Row ≡ Refused NoSuchView
unfolding judged
no_view = refl

-- ---- a key is handed

pub removed : judged Mapping (5 ∷ []) Key ≡ Allowed
unfolding judged
removed = refl

pub kept : judged Access (4 ∷ 5 ∷ 6 ∷ 7 ∷ 8 ∷ []) Key ≡ Refused NotInView
unfolding judged
kept = refl
