-- Numbers and rows written in bytes, as an image has them (document 01, "The table image"); `pairs` and `cut` read them. Assumes nothing.
use Rattle.std.specs.Prelude.{List, [], ◌∷◌, ◌++◌, map, ℕ, ◌/◌, ◌%◌, length}

-- numbers of two bytes, big-endian
abbrev pub pairs_of : List ℕ → List ℕ
pairs_of [] = []
pairs_of (n ∷ ns) = n / 256 ∷ n % 256 ∷ pairs_of ns

module _ {A : Type 0} where
  -- lists one behind the other
  abbrev pub concatenated : List (List A) → List A
  concatenated [] = []
  concatenated (x ∷ xs) = x ++ concatenated xs

  -- their lengths, so written
  abbrev pub heads : List (List A) → List ℕ
  heads rs = pairs_of (map length rs)
