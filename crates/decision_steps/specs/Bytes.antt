-- One row's bytes and a request: how the code sees the steps. Assumes nothing.
use Rattle.std.specs.Prelude.{◌≡◌, cond, List, ℕ, ◌+◌, ◌*◌, ◌/◌, ◌≤◌, eqb, length, take, drop, get_or}
use Rattle.std.proofs.Math.Option.{none}
use Rattle.rows.specs.declared.Table.{Table}
use Rattle.numbers.specs.BigEndian.{quad, numbers}
use Rattle.rows.specs.Fields.{faults}
use Rattle.rows.specs.Rows.{row_fields, AccessRow}
use Rattle.decision_steps.specs.Decision.{any_model, candidate}

-- nothing is wrong with the row's bytes
abbrev pub Whole : Table → List ℕ → Type 0
Whole t row = faults (row_fields t) row ≡ none

-- a name, that is a length byte and octets, lies at `at` within the row; its octets
abbrev pub NameIn : List ℕ → ℕ → Type 0
NameIn row at = at + 1 + get_or row at 0 ≤ length row

abbrev pub name_at : List ℕ → ℕ → List ℕ
name_at row at = take (get_or row at 0) (drop (at + 1) row)

-- where the field after the name at `at` begins
pub record After (row : List ℕ) (at end : ℕ) : Type 0 where
  pub is : end ≡ at + 1 + get_or row at 0
  pub inside : end ≤ length row

-- a name that is known lies at `at`
pub record NamedAt (row : List ℕ) (at : ℕ) (name : List ℕ) : Type 0 where
  pub lies : NameIn row at
  pub is : name_at row at ≡ name

-- an identifier in parts of 4 bytes, big-endian; a torn last part does not count
unfoldable pub identifier : List ℕ → List ℕ
identifier v = numbers quad (length v / 4) v

-- an access row's rank among the candidates, 0 where it is none: its own model before any, the longer prefix, the higher level
unfoldable pub rank_of : List ℕ → ℕ → ℕ → List ℕ → AccessRow → ℕ
rank_of group model level context a =
    cond (candidate group model level context a)
    (cond (eqb a.security_model any_model) 0 256 + (length a.context_prefix * 4 + a.security_level))
    0
