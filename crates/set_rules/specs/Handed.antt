-- A set of edits as a call is handed it: how many there are, and of each what it does, in which table, and which of the lent bytes are its own. Bytes that
-- are not there are none. Assumes nothing.
use Rattle.std.specs.Prelude.{List, [], ◌∷◌, ℕ, zero, suc, ◌-◌, take, drop, get_or}
use Rattle.numbers.specs.BigEndian.{Octets}
use Rattle.rows.specs.declared.Table.TheVariants.{Context}
use Rattle.edit_rules.specs.declared.Operation.TheVariants.{Create}
use Rattle.edit_rules.specs.Edits.{Edit, edit_of}
use Rattle.set_rules.specs.declared.SetEdit.{SetEdit}
use Rattle.set_rules.specs.declared.EditSet.{EditSet}

abbrev pub bytes_in : (from end : ℕ) → List ℕ → List ℕ
bytes_in from end bytes = take (end - from) (drop from bytes)

abbrev pub edit_in : SetEdit → List ℕ → Edit
edit_in x bytes = edit_of x.operation x.table (bytes_in x.from x.end bytes)

-- past the last place any will do: a set of more than 8 edits is none, whatever they are
abbrev pub no_edit : SetEdit
no_edit = record { operation = Create; table = Context; from = 0; end = 0 }

abbrev pub place_in : List SetEdit → ℕ → SetEdit
place_in xs i = get_or xs i no_edit

-- the n edits from place i on
abbrev pub edits_from : List SetEdit → List ℕ → ℕ → ℕ → List Edit
edits_from xs bytes i zero = []
edits_from xs bytes i (suc n) = edit_in (place_in xs i) bytes ∷ edits_from xs bytes (suc i) n

abbrev pub edits_of : EditSet → List ℕ → List Edit
edits_of s bytes = edits_from s.edits bytes 0 s.count

-- each is handed bytes, as a lent slice holds them
abbrev pub AllOctets : List Edit → Type 0
AllOctets [] = Unit {0}
AllOctets (e ∷ es) = Octets e.bytes × AllOctets es
