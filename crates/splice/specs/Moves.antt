-- A list with a part of it moved. Assumes nothing.
use Rattle.std.specs.Prelude.{List, ◌++◌, ℕ, ◌+◌, ◌-◌, take, drop}

-- w in which the elements from `from` up to `end` stand from `to` on; the rest stays
abbrev pub moved : List ℕ → ℕ → ℕ → ℕ → List ℕ
moved w from end to = take to w ++ (take (end - from) (drop from w) ++ drop (to + (end - from)) w)

-- how many elements are moved at once
abbrev pub block : ℕ
block = 64
