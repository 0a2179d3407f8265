-- The first refusal over columns: the same where each column is judged the same, and the one cause where each is refused for it. Assumes nothing.
use mathlib.Core.Path.{◌≡◌, refl, ap₂}
use mathlib.Core.List.{List, [], ◌∷◌}
use Prim.Native.Nat.{ℕ}
use Rattle.answers.specs.declared.Cause.{Cause}
use Rattle.answers.specs.declared.Decision.{Decision}
use Rattle.answers.specs.declared.Decision.TheVariants.{Refused}
use Rattle.rows.specs.declared.Table.{Table}
use Rattle.rows.specs.declared.Table.TheVariants.{Context, Mapping, Access, View}
use Rattle.rows.specs.declared.Shape.{Shape}
use Rattle.rows.specs.declared.Shape.TheVariants.{Row, Key}
use Rattle.edit_rules.specs.Edits.{columns_written, if_allowed, first_refusal}

pub refusals-same : {f g : ℕ → Decision} → ((column : ℕ) → f column ≡ g column) → (columns : List ℕ) → first_refusal f columns ≡ first_refusal g columns
refusals-same h [] = refl
refusals-same h (column ∷ columns) = ap₂ if_allowed (h column) (refusals-same h columns)

-- there is a first column
pub record Begins (columns : List ℕ) : Type 0 where
  pub first : ℕ
  pub others : List ℕ
  pub is : columns ≡ first ∷ others

begins : (first : ℕ) (others : List ℕ) → Begins (first ∷ others)
begins first others = record { first = first; others = others; is = refl }

pub written_begin : (s : Shape) (t : Table) → Begins (columns_written s t)
written_begin Row Context = begins _ _
written_begin Row Mapping = begins _ _
written_begin Row Access = begins _ _
written_begin Row View = begins _ _
written_begin Key t = begins _ _

pub all-refused : (f : ℕ → Decision) {cause : Cause} → ((column : ℕ) → Refused cause ≡ f column) → (s : Shape) (t : Table)
    → Refused cause ≡ first_refusal f (columns_written s t)
all-refused f {cause} h s t = let b = written_begin s t in rw (b.is, ← (h b.first))
