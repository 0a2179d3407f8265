-- A request: the parameters of RFC 3415's isAccessAllowed (section 2.2.1), with the ranges of document 01, "The decision". Assumes nothing.
use Rattle.std.specs.Prelude.{Bool, ◌&&◌, List, ℕ, leb, length}
use Rattle.rows.specs.Rows.{model_max}
use Rattle.rows.specs.Fields.{within}

pub record Request : Type 0 where
  pub security_model : ℕ
  pub security_name : List ℕ
  pub security_level : ℕ
  pub view_type : ℕ
  pub context_name : List ℕ
  pub variable_name : List ℕ

abbrev pub asked : ℕ → List ℕ → ℕ → ℕ → List ℕ → List ℕ → Request
asked model name level view context variable = record {
  security_model = model;
  security_name = name;
  security_level = level;
  view_type = view;
  context_name = context;
  variable_name = variable;
}

-- ---- the figures of the parameters

-- securityLevel: noAuthNoPriv is 1, authNoPriv 2, authPriv 3
abbrev pub no_auth_no_priv : ℕ
no_auth_no_priv = 1

abbrev pub auth_priv : ℕ
auth_priv = 3

-- viewType: read is 1, write 2, notify 3
abbrev pub read : ℕ
read = 1

abbrev pub write : ℕ
write = 2

abbrev pub notify : ℕ
notify = 3

-- names of at most 32 octets, identifiers of at most 128 parts
abbrev pub longest_name : ℕ
longest_name = 32

abbrev pub most_parts : ℕ
most_parts = 128

-- the ranges, of a name and an identifier those of its length: that their parts are octets and sub-identifiers is the slices' type
abbrev pub in_range : ℕ → ℕ → ℕ → ℕ → ℕ → ℕ → Bool
in_range model name level view context variable =
    within 1 model_max model
    && within 1 longest_name name
    && within no_auth_no_priv auth_priv level
    && within read notify view
    && leb context longest_name
    && within 1 most_parts variable

unfoldable pub legal_request : Request → Bool
legal_request q =
    in_range q.security_model (length q.security_name) q.security_level q.view_type (length q.context_name)
    (length q.variable_name)
