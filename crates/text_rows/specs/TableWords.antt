-- The word that names a table, in ASCII. Assumes nothing.
use Rattle.std.specs.Prelude.{List, [], ◌∷◌, ℕ}
use Rattle.std.proofs.Math.Option.{Option}
use Rattle.numbers.specs.Lists.{find}
use Rattle.numbers.specs.Order.{same}
use Rattle.rows.specs.declared.Table.{Table}
use Rattle.rows.specs.declared.Table.TheVariants.{Context, Mapping, Access, View}

-- context, mapping, access, view
abbrev pub table_word : Table → List ℕ
table_word Context = 99 ∷ 111 ∷ 110 ∷ 116 ∷ 101 ∷ 120 ∷ 116 ∷ []
table_word Mapping = 109 ∷ 97 ∷ 112 ∷ 112 ∷ 105 ∷ 110 ∷ 103 ∷ []
table_word Access = 97 ∷ 99 ∷ 99 ∷ 101 ∷ 115 ∷ 115 ∷ []
table_word View = 118 ∷ 105 ∷ 101 ∷ 119 ∷ []

abbrev pub tables : List Table
tables = Context ∷ Mapping ∷ Access ∷ View ∷ []

-- the table that a word names
unfoldable pub table_named : List ℕ → Option Table
table_named w = find (λ t. same (table_word t) w) tables
