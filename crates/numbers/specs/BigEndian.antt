-- Numbers in bytes, big-endian: read and written, one or several (document 01, "The table image"). Assumes nothing.
use Rattle.std.specs.Prelude.{Bool, true, ◌&&◌, List, [], ◌∷◌, ◌++◌, ℕ, zero, suc, ◌+◌, ◌*◌, ◌/◌, ◌%◌, ◌<◌, ltb, drop, get_or}

-- a number takes 1 byte or 4
pub data Width : Type 0 where
  octet : Width
  quad : Width

abbrev pub size : Width → ℕ
size octet = 1
size quad = 4

-- a number is below this
abbrev pub bound : Width → ℕ
bound octet = 256
bound quad = 4294967296

-- the number at the front of v, and a number's bytes
abbrev pub number : Width → List ℕ → ℕ
number octet v = get_or v 0 0
number quad v = get_or v 0 0 * 16777216 + get_or v 1 0 * 65536 + get_or v 2 0 * 256 + get_or v 3 0

abbrev pub bytes : Width → ℕ → List ℕ
bytes octet x = x ∷ []
bytes quad x = x / 16777216 ∷ x / 65536 % 256 ∷ x / 256 % 256 ∷ x % 256 ∷ []

-- the n numbers at the front of v, and numbers' bytes
abbrev pub numbers : Width → ℕ → List ℕ → List ℕ
numbers w zero v = []
numbers w (suc n) v = number w v ∷ numbers w n (drop (size w) v)

abbrev pub bytes_of : Width → List ℕ → List ℕ
bytes_of w [] = []
bytes_of w (x ∷ xs) = bytes w x ++ bytes_of w xs

-- each number is one of its width
abbrev pub fit : Width → List ℕ → Bool
fit w [] = true
fit w (x ∷ xs) = ltb x (bound w) && fit w xs

-- bytes, as a lent slice of them holds
abbrev pub Octets : List ℕ → Type 0
Octets v = (i : ℕ) → get_or v i 0 < 256
