-- What a reader finds at a place of the sub-identifiers, and where it stands afterwards. Assumes nothing.
use Rattle.std.specs.Prelude.{◌≡◌, cond, List, ℕ, ◌+◌, ◌-◌, ltb, length, get_or}
use Rattle.std.specs.Borrow.{Bor}
use Rattle.std.specs.Prelude.{Some, None}
use Rattle.reader.specs.Types.{Part}
use Rattle.reader.specs.declared.Read.{Read}
use Rattle.reader.specs.declared.Reader.{Reader}

-- the part at a place, where there is one
abbrev pub part_at : List ℕ → ℕ → Part
part_at parts at = cond (ltb at (length parts)) (Some (get_or parts at 0)) None

-- the place behind it; at the end there is no further place
abbrev pub behind : List ℕ → ℕ → ℕ
behind parts at = cond (ltb at (length parts)) (at + 1) at

-- the part and the place behind it together
abbrev pub step_at : List ℕ → ℕ → Part × ℕ
step_at parts at = (part_at parts at, behind parts at)

-- the same parts, at the place behind the part that was read
abbrev pub moved_on : Reader → Reader
moved_on r = record { parts = r.parts; at = behind r.parts.now r.at }

-- a reader over lent parts, at a place
abbrev pub reader_at : Bor (List ℕ) → ℕ → Reader
reader_at parts at = record { parts = parts; at = at }

-- what a reader reads at its place, and where it stands then
pub record ReadsOn (found after : Reader) (p : Part) : Type 0 where
  pub part_is : p ≡ part_at found.parts.now found.at
  pub reader_is : after ≡ moved_on found

-- what is read at a place, and how many parts are left behind it
abbrev pub read_from : List ℕ → ℕ → Read
read_from parts at = record { part = part_at parts at; at = behind parts at; left = length parts - behind parts at }
