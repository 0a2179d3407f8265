-- The calls on a store under C names: the number of each call's answer, and the call's own promise. Assumes nothing.
use Rattle.std.specs.Prelude.{◌≡◌, cond, ℕ, ◌+◌, eqb}
use Rattle.std.specs.Prelude.{Ok, Err}
use Rattle.answers.specs.Types.{Written}
use Rattle.answers.specs.Numbers.{fault_number}
use Rattle.edit_rules.specs.declared.Operation.{Operation}
use Rattle.edit_rules.specs.declared.Operation.TheVariants.{Create, Change, Remove}
use Rattle.rows.specs.declared.Table.{Table}
use Rattle.rows.specs.declared.Table.TheVariants.{Context, Mapping, Access, View}

-- the tables in document 01's order, from 0 on
abbrev pub table_numbered : ℕ → Table
table_numbered n = cond (eqb n 0) Context (cond (eqb n 1) Mapping (cond (eqb n 2) Access View))

-- create, change, then remove
abbrev pub operation_numbered : ℕ → Operation
operation_numbered n = cond (eqb n 0) Create (cond (eqb n 1) Change Remove)

-- a length, or a refusal's number above all lengths
abbrev pub length_number : Written → ℕ
length_number (Ok n) = n
length_number (Err f) = 4294967296 + fault_number f

-- an answer that keeps its promise, and its number
pub record Numbered {A : Type 0} (number : A → ℕ) (Promise : A → Type 0) (r : ℕ) : Type 0 where
  pub answer : A
  pub promise : Promise answer
  pub number_is : r ≡ number answer
