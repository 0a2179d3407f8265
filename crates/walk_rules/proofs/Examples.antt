-- A walk to the end over small tables, by computation: each step goes on from the instance before it. Contexts and rows out of service are walked, columns
-- before rows; what the view refuses (a column of the mappings, all access rows and view rows) is not; then nothing follows. Assumes nothing.
use mathlib.Core.Path.{◌≡◌, refl}
use mathlib.Core.List.{List, [], ◌∷◌}
use Prim.Native.Nat.{ℕ, zero, suc}
use Rattle.answers.specs.declared.Cause.TheVariants.{NoGroupName}
use Rattle.answers.specs.declared.Fault.TheVariants.{OutOfRange}
use Rattle.numbers.specs.Order.{same, before, begins}
use Rattle.rows.specs.declared.Table.TheVariants.{Mapping}
use Rattle.rows.specs.Rows.{ViewRow, key_fields}
use Rattle.rows.specs.Tables.{Tables}
use Rattle.decision_steps.specs.Decision.{decision, authority, bears_context, maps_principal, context_fits, candidate, chosen_access, view_for, in_view}
use Rattle.decision_steps.specs.Decision.{mask_bit, agrees, matches, chosen_view}
use Rattle.instance_encode.specs.Instances.{vacm}
use Rattle.edit_rules.specs.Edits.{caller_of, legal_caller}
use Rattle.walk_rules.specs.declared.Walked.TheVariants.{Next, EndOfMibView, Denied, Faulty}
use Rattle.walk_rules.specs.Walk.{may_read, follows, least, next_instance, Walk, refusal, legal_walk, walk_on}

-- names of one letter
abbrev pub a : List ℕ
a = 97 ∷ []

abbrev pub b : List ℕ
b = 98 ∷ []

-- of the view "a": type 1 is included, 2 excluded
abbrev family : List ℕ → ℕ → ViewRow
family subtree type = record { view_name = a; subtree = subtree; mask = []; family_type = type; storage_type = 3; status = 1 }

-- "a" and "b" are of the group "b", and "b" is out of service; the group reads by the view "a"
abbrev tables : Tables
tables = record {
  vacm_context_table = record { context_name = [] } ∷ [];
  vacm_security_to_group_table =
      record { security_model = 3; security_name = a; group_name = b; storage_type = 3; status = 1 }
      ∷ record { security_model = 3; security_name = b; group_name = b; storage_type = 3; status = 2 }
      ∷ [];
  vacm_access_table = record {
    group_name = b;
    context_prefix = [];
    security_model = 3;
    security_level = 1;
    context_match = 1;
    read_view_name = a;
    write_view_name = [];
    notify_view_name = [];
    storage_type = 3;
    status = 1;
  } ∷ [];
  vacm_view_tree_family_table =
      family (vacm []) 1 ∷ family (vacm (4 ∷ [])) 2 ∷ family (vacm (5 ∷ [])) 2 ∷ family (vacm (2 ∷ 1 ∷ 4 ∷ [])) 2 ∷ [];
}

unfoldable pub walk_by : List ℕ → ℕ → List ℕ → Walk
unfolding walk_on legal_walk legal_caller authority next_instance follows may_read least decision bears_context maps_principal context_fits candidate chosen_access
    view_for in_view mask_bit agrees matches chosen_view same before begins key_fields
walk_by name level identifier = walk_on tables (caller_of 3 name level) identifier

-- the instances of n steps
unfoldable pub steps : ℕ → List ℕ → List (List ℕ)
unfolding walk_by
steps zero identifier = []
steps (suc n) identifier = (walk_by a 2 identifier).identifier ∷ steps n (walk_by a 2 identifier).identifier

pub to_the_end : steps 5 []
    ≡ vacm (1 ∷ 1 ∷ 1 ∷ 0 ∷ [])
    ∷ vacm (2 ∷ 1 ∷ 3 ∷ 3 ∷ 1 ∷ a)
    ∷ vacm (2 ∷ 1 ∷ 3 ∷ 3 ∷ 1 ∷ b)
    ∷ vacm (2 ∷ 1 ∷ 5 ∷ 3 ∷ 1 ∷ a)
    ∷ vacm (2 ∷ 1 ∷ 5 ∷ 3 ∷ 1 ∷ b)
    ∷ []
unfolding steps walk_by
to_the_end = refl

pub nothing-follows : walk_by a 2 (vacm (2 ∷ 1 ∷ 5 ∷ 3 ∷ 1 ∷ b)) ≡ refusal EndOfMibView
unfolding walk_by
nothing-follows = refl

-- all that is handed back: the key is a model of four bytes and a name behind its length
pub one-step : walk_by a 2 (vacm (2 ∷ 1 ∷ 3 ∷ 3 ∷ 1 ∷ a)) ≡ record {
  answer = Next 14 Mapping 3 6;
  identifier = vacm (2 ∷ 1 ∷ 3 ∷ 3 ∷ 1 ∷ b);
  key = 0 ∷ 0 ∷ 0 ∷ 3 ∷ 1 ∷ b;
}
unfolding walk_by
one-step = refl

pub denied : walk_by b 2 [] ≡ refusal (Denied NoGroupName)
unfolding walk_by
denied = refl

pub out_of_range : walk_by a 4 [] ≡ refusal (Faulty OutOfRange)
unfolding walk_by
out_of_range = refl
