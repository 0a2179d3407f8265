-- Walking the tables (document 02, ticket 1): "the least instance of a held row above it that the principal may read in the empty context, with its
-- table, column and key". Over the rows held, and what the call promises. Assumes nothing.
use Rattle.std.specs.Prelude.{◌≡◌, Bool, true, false, cond, not, ◌&&◌, List, [], ◌∷◌, ◌++◌, map, ℕ, leb, length, take}
use Rattle.std.proofs.Math.Option.{Option, none, some}
use Rattle.answers.specs.declared.Decision.{Decision}
use Rattle.answers.specs.declared.Decision.TheVariants.{Allowed, Refused}
use Rattle.answers.specs.declared.Fault.TheVariants.{NotSound, OutOfRange}
use Rattle.numbers.specs.Laid.{laid}
use Rattle.numbers.specs.Lists.{keep, every, find}
use Rattle.numbers.specs.Order.{before}
use Rattle.rows.specs.declared.Table.{Table}
use Rattle.rows.specs.declared.Table.TheVariants.{Context, Mapping, Access, View}
use Rattle.rows.specs.Fields.{faults, row_bytes}
use Rattle.rows.specs.Rows.{key_fields}
use Rattle.rows.specs.Tables.{Tables}
use Rattle.image.specs.Store.{held}
use Rattle.decision_steps.specs.Request.{asked, read, most_parts}
use Rattle.decision_steps.specs.Decision.{decision, Authority, denied, viewed, authority}
use Rattle.instance_encode.specs.Instances.{columns, instance}
use Rattle.edit_rules.specs.TableRows.{RowOf, rows_of, row_index, values_of}
use Rattle.edit_rules.specs.Edits.{Caller, legal_caller}
use Rattle.walk_rules.specs.declared.Walked.{Walked}
use Rattle.walk_rules.specs.declared.Walked.TheVariants.{Next, EndOfMibView, Denied, Faulty}
use Rattle.walk_rules.specs.Numbers.{walked_number}

-- ---- the instances of the rows held: every listed column of every row, in service or not

pub record Instance : Type 0 where
  pub table : Table
  pub column : ℕ
  pub identifier : List ℕ
  pub key : List ℕ

-- the key in the form of the image
abbrev pub instance_of : (t : Table) → ℕ → RowOf t → Instance
instance_of t column r = record {
  table = t;
  column = column;
  identifier = instance t column (row_index t r);
  key = row_bytes (key_fields t) (values_of t r);
}

abbrev pub of_columns : (t : Table) → List (RowOf t) → List ℕ → List Instance
of_columns t rs [] = []
of_columns t rs (column ∷ cs) = map (instance_of t column) rs ++ of_columns t rs cs

abbrev pub of_table : Tables → Table → List Instance
of_table ts t = of_columns t (rows_of t ts) (columns t)

abbrev pub instances : Tables → List Instance
instances ts = of_table ts Context ++ (of_table ts Mapping ++ (of_table ts Access ++ of_table ts View))

-- ---- those that follow an identifier, and the least of them

-- "that the principal may read in the empty context"
abbrev pub is_allowed : Decision → Bool
is_allowed Allowed = true
is_allowed (Refused cause) = false

unfoldable pub may_read : Tables → Caller → List ℕ → Bool
may_read ts c variable = is_allowed (decision ts (asked c.security_model c.security_name c.security_level read [] variable))

unfoldable pub follows : Tables → Caller → List ℕ → Instance → Bool
follows ts c identifier i = before identifier i.identifier && may_read ts c i.identifier

-- no other is before it
unfoldable pub least : List Instance → Option Instance
least is = find (λ i. every (λ j. not (before j.identifier i.identifier)) is) is

unfoldable pub next_instance : Tables → Caller → List ℕ → Option Instance
next_instance ts c identifier = least (keep (follows ts c identifier) (instances ts))

-- ---- a walk: all that it hands back

pub record Walk : Type 0 where
  pub answer : Walked
  pub identifier : List ℕ
  pub key : List ℕ

abbrev pub refusal : Walked → Walk
refusal r = record { answer = r; identifier = []; key = [] }

abbrev pub reaching : Option Instance → Walk
reaching none = refusal EndOfMibView
reaching (some i) = record {
  answer = Next (length i.identifier) i.table i.column (length i.key);
  identifier = i.identifier;
  key = i.key;
}

-- "Causes 1 to 4 come first, being the same for every variable."
abbrev pub if_viewed : Authority → Walk → Walk
if_viewed (denied cause) w = refusal (Denied cause)
if_viewed (viewed rows) w = w

unfoldable pub legal_walk : Caller → List ℕ → Bool
legal_walk c identifier = legal_caller c && leb (length identifier) most_parts

-- on tables that are sound: 7, 1 to 4, the instance or 17
unfoldable pub walk_on : Tables → Caller → List ℕ → Walk
walk_on ts c identifier =
    cond (legal_walk c identifier)
    (if_viewed (authority ts c.security_model c.security_name c.security_level read []) (reaching (next_instance ts c identifier)))
    (refusal (Faulty OutOfRange))

-- before all, 6
abbrev pub walk_in : Option Tables → Caller → List ℕ → Walk
walk_in none c identifier = refusal (Faulty NotSound)
walk_in (some ts) c identifier = walk_on ts c identifier

-- ---- the call

-- the answer and its number; the lent rooms: instance and key at their front, behind them as found
pub record Walks (c : Caller) (identifier store : List ℕ) (parts parts' key key' : List ℕ) (r : Walked) : Type 0 where
  pub answer_is : r ≡ (walk_in (held store) c identifier).answer
  pub number_is : walked_number r ≡ walked_number (walk_in (held store) c identifier).answer
  pub parts_are : parts' ≡ laid 0 (walk_in (held store) c identifier).identifier parts
  pub key_is : key' ≡ laid 0 (walk_in (held store) c identifier).key key

-- what is handed back, by the answer and the lent rooms; its key is whole and each field of it in range
abbrev pub handed : Walked → List ℕ → List ℕ → Walk
handed (Next n t column m) parts key = record { answer = Next n t column m; identifier = take n parts; key = take m key }
handed EndOfMibView parts key = refusal EndOfMibView
handed (Denied cause) parts key = refusal (Denied cause)
handed (Faulty fault) parts key = refusal (Faulty fault)

abbrev pub LegalKey : Walked → List ℕ → Type 0
LegalKey (Next n t column m) key = faults (key_fields t) (take m key) ≡ none
LegalKey EndOfMibView key = Unit {0}
LegalKey (Denied cause) key = Unit {0}
LegalKey (Faulty fault) key = Unit {0}
