-- The form of a field in the code: the field that it stands for. Assumes nothing.
use Rattle.std.specs.Prelude.{List, ℕ, ◌+◌, ◌*◌, get_or}
use Rattle.rows.specs.declared.Form.{Form}
use Rattle.rows.specs.declared.Form.TheVariants.{Name, Subtree, Large, Small}
use Rattle.rows.specs.Fields.{Field, sequence, integer}
use Rattle.numbers.specs.BigEndian.{octet, quad}

-- the field that a form stands for, and the most bytes that it takes
abbrev pub field_of : Form → Field
field_of (Name lo hi) = sequence octet lo hi
field_of (Subtree lo hi) = sequence quad lo hi
field_of (Large lo hi) = integer quad lo hi
field_of (Small lo hi) = integer octet lo hi

abbrev pub room_of : Form → ℕ
room_of (Name lo hi) = 1 + hi
room_of (Subtree lo hi) = 1 + 4 * hi
room_of (Large lo hi) = 4
room_of (Small lo hi) = 1

-- a field of a list by its place; past the end any will do
abbrev pub field_in : List Field → ℕ → Field
field_in ks i = get_or ks i (integer octet 1 2)
