-- A key's bytes as its index: its numbers of four bytes lie together and are a part each, every other byte is a part. Assumes nothing.
use Rattle.std.specs.Prelude.{List, ◌++◌, ℕ, ◌+◌, ◌-◌, ◌*◌, length, take, drop, get_or}
use Rattle.rows.specs.declared.Table.{Table}
use Rattle.rows.specs.declared.Table.TheVariants.{Context, Mapping, Access, View}
use Rattle.numbers.specs.BigEndian.{quad, numbers}

-- where these numbers begin, and how many there are
abbrev pub quads_from : Table → List ℕ → ℕ
quads_from Context key = 0
quads_from Mapping key = 0
quads_from Access key = length key - 5
quads_from View key = 2 + get_or key 0 0

abbrev pub quads_in : Table → List ℕ → ℕ
quads_in Context key = 0
quads_in Mapping key = 1
quads_in Access key = 1
quads_in View key = get_or key (1 + get_or key 0 0) 0

abbrev pub runs : ℕ → ℕ → List ℕ → List ℕ
runs from quads key = take from key ++ (numbers quad quads (drop from key) ++ drop (from + 4 * quads) key)
