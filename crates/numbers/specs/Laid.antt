-- A list laid into a buffer, in the place of as many elements as it has. Assumes nothing.
use Rattle.std.specs.Prelude.{List, ◌++◌, ℕ, ◌+◌, length, take, drop}

-- b in the place of what w has from `at` on
abbrev pub laid : ℕ → List ℕ → List ℕ → List ℕ
laid at b w = take at w ++ (b ++ drop (at + length b) w)
