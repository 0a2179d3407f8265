-- The instance of a column of a row (RFC 3415 section 4, document 01 "Row instances"): a base, the column, the index. Assumes nothing.
use Rattle.std.specs.Prelude.{◌≡◌, Bool, cond, ◌&&◌, List, [], ◌∷◌, ◌++◌, ℕ, zero, suc, ◌+◌, eqb, leb, length, drop}
use Rattle.std.proofs.Math.Option.{Option, none, some}
use Rattle.std.specs.Prelude.{Ok, Err}
use Rattle.answers.specs.Numbers.{written_number}
use Rattle.answers.specs.declared.Fault.{Fault}
use Rattle.answers.specs.declared.Fault.TheVariants.{OutOfRange, TooShort}
use Rattle.numbers.specs.Lists.{any, is_none}
use Rattle.rows.specs.Fields.{faults}
use Rattle.rows.specs.Rows.{key_fields, index_of}
use Rattle.answers.specs.Types.{Written}
use Rattle.rows.specs.declared.Table.{Table}
use Rattle.rows.specs.declared.Table.TheVariants.{Context, Mapping, Access, View}

-- 1.3.6.1.6.3.16.1: vacmMIBObjects
abbrev pub vacm : List ℕ → List ℕ
vacm rest = 1 ∷ 3 ∷ 6 ∷ 1 ∷ 6 ∷ 3 ∷ 16 ∷ 1 ∷ rest

abbrev pub base : Table → List ℕ
base Context = vacm (1 ∷ 1 ∷ [])
base Mapping = vacm (2 ∷ 1 ∷ [])
base Access = vacm (4 ∷ 1 ∷ [])
base View = vacm (5 ∷ 2 ∷ 1 ∷ [])

-- the parts of the longest
abbrev pub longest_base : ℕ
longest_base = 11

-- the columns that document 01 lists
abbrev pub columns : Table → List ℕ
columns Context = 1 ∷ []
columns Mapping = 3 ∷ 4 ∷ 5 ∷ []
columns Access = 4 ∷ 5 ∷ 6 ∷ 7 ∷ 8 ∷ 9 ∷ []
columns View = 3 ∷ 4 ∷ 5 ∷ 6 ∷ []

-- numbers that follow one another, as the columns of a table do
abbrev pub counted : ℕ → ℕ → List ℕ
counted column zero = []
counted column (suc n) = column ∷ counted (column + 1) n

abbrev pub instance : Table → ℕ → List ℕ → List ℕ
instance t column index = base t ++ (column ∷ index)

-- the status column; a context row has none, and no edit of it is judged
abbrev pub status_column : Table → ℕ
status_column Context = 1
status_column Mapping = 5
status_column Access = 9
status_column View = 6

-- whether the table lists the column
abbrev pub lists : Table → ℕ → Bool
lists t column = any (eqb column) (columns t)

-- what is wrong with a column and a key that are to be encoded, then with the room for the instance
unfoldable pub encode_fault : Table → ℕ → List ℕ → ℕ → Option Fault
encode_fault t column key room =
    cond (lists t column && is_none (faults (key_fields t) key))
    (cond (leb (length (instance t column (index_of t key))) room) none (some TooShort))
    (some OutOfRange)

abbrev pub written : Option Fault → ℕ → Written
written none n = Ok n
written (some f) n = Err f

-- encoding: the answer and its number; the buffer is the instance and then as found, or wholly as found
pub record Encodes (t : Table) (column : ℕ) (key found after : List ℕ) (r : Written) : Type 0 where
  pub answer_is : r ≡ written (encode_fault t column key (length found)) (length (instance t column (index_of t key)))
  pub number_is :
      written_number r
      ≡ written_number (written (encode_fault t column key (length found)) (length (instance t column (index_of t key))))
  pub buffer_is :
      after
      ≡ cond (is_none (encode_fault t column key (length found)))
      (instance t column (index_of t key) ++ drop (length (instance t column (index_of t key))) found)
      found
