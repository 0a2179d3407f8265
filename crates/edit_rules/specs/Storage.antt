-- The storage of a row where its bytes lie, and of the row held at a place; what stands against an edit at the place of its key. Assumes nothing.
use Rattle.std.specs.Prelude.{◌≡◌, Bool, true, cond, not, ◌&&◌, List, ℕ, ◌+◌, ◌-◌, ◌≤◌, leb, length, take, drop, get_or}
use Rattle.std.proofs.Math.Option.{Option, none, some}
use Rattle.std.specs.Prelude.{Ok, Err}
use Rattle.answers.specs.declared.Refusal.TheVariants.{Faulty}
use Rattle.answers.specs.declared.Fault.{Fault}
use Rattle.answers.specs.declared.Fault.TheVariants.{TableFull, StorageForbids}
use Rattle.rows.specs.declared.Shape.{Shape}
use Rattle.rows.specs.declared.Shape.TheVariants.{Row, Key}
use Rattle.rows.specs.Fields.{or_else}
use Rattle.table_update.specs.declared.Place.{Place}
use Rattle.edit_rules.specs.declared.Operation.{Operation}
use Rattle.edit_rules.specs.Types.{Edited}
use Rattle.edit_rules.specs.TableRows.{volatile}
use Rattle.edit_rules.specs.Edits.{shape_of, is_create, may_put, may_remove, presence_fault}

-- the last octet but one of a mapping, access or view row
abbrev pub storage_in : List ℕ → ℕ
storage_in row = get_or row (length row - 2) 0

-- the row held at a place lies within w and has such an octet
abbrev pub StorageIn : List ℕ → Place → Type 0
StorageIn w p = p.present ≡ true → (p.from + 2 ≤ p.end) × (p.end ≤ length w)

-- what a rule of storage reads is there: the storage of the row held, and of the row put
pub record StorageKnown (s : Shape) (w : List ℕ) (p : Place) (bytes : List ℕ) : Type 0 where
  pub of_held : StorageIn w p
  pub of_put : s ≡ Row → 2 ≤ length bytes

-- where none is held, volatile, which lets everything be done that may be done where there is no row
abbrev pub storage_at : List ℕ → Place → ℕ
storage_at w p = cond p.present (storage_in (take (p.end - p.from) (drop p.from w))) volatile

-- whether a row of storage `old` may be edited, by a row of storage `new` where one is put
abbrev pub may_edit : Shape → ℕ → ℕ → Bool
may_edit Row old new = may_put (some old) new
may_edit Key old new = may_remove old

-- what stands against an edit at the place of its key: 18 or 10, then 11
abbrev pub place_fault : Bool → Operation → Bool → ℕ → ℕ → Option Fault
place_fault strict o present old new = or_else (presence_fault o present) (cond (strict && not (may_edit (shape_of o) old new)) (some StorageForbids) none)

-- then 9, in a table of so many rows
abbrev pub placed : Option Fault → Bool → Edited
placed (some f) full = Err (Faulty f)
placed none full = cond full (Err (Faulty TableFull)) (Ok tt)

abbrev pub full_at : Operation → ℕ → ℕ → Bool
full_at o limit count = is_create o && leb limit count
