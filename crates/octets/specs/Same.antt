-- Octets at a place of two lists that are the same. Assumes nothing.
use Rattle.std.specs.Prelude.{Bool, ◌&&◌, List, ℕ, ◌+◌, eqb, drop}
use Rattle.numbers.specs.BigEndian.{quad, number}

-- the four octets at i are the same, as the numbers are that they say; the eight
abbrev pub same_four : List ℕ → List ℕ → ℕ → Bool
same_four a b i = eqb (number quad (drop i a)) (number quad (drop i b))

abbrev pub same_eight : List ℕ → List ℕ → ℕ → Bool
same_eight a b i = same_four a b i && same_four a b (i + 4)
