-- Values as text, in ASCII: numbers in decimal, names in hex, identifiers dotted. Assumes nothing.
use Rattle.std.specs.Prelude.{◌≡◌, cond, List, [], ◌∷◌, ◌++◌, ℕ, zero, suc, ◌+◌, ◌/◌, ◌%◌, ltb, length}
use Rattle.numbers.specs.Laid.{laid}

-- ---- numbers in decimal, no zero in front

-- at most so many digits
unfoldable pub digits : ℕ → ℕ → List ℕ
digits zero n = []
digits (suc most) n = cond (ltb n 10) ((48 + n) ∷ []) (digits most (n / 10) ++ ((48 + n % 10) ∷ []))

-- a number below 2 ^ 64 has 20 at most
unfoldable pub decimal_text : ℕ → List ℕ
decimal_text n = digits 20 n

-- ---- names in hex, two lower-case digits to an octet; `-` is the empty name

abbrev pub hex_digit : ℕ → ℕ
hex_digit n = cond (ltb n 10) (48 + n) (87 + n)

abbrev pub octet_text : ℕ → List ℕ
octet_text x = hex_digit (x / 16) ∷ hex_digit (x % 16) ∷ []

unfoldable pub hex_text : List ℕ → List ℕ
hex_text [] = []
hex_text (x ∷ xs) = octet_text x ++ hex_text xs

unfoldable pub name_text : List ℕ → List ℕ
name_text [] = 45 ∷ []
name_text (x ∷ xs) = hex_text (x ∷ xs)

-- ---- identifiers: sub-identifiers in decimal with dots between; `-` is the one that has none

-- each with a dot in front
unfoldable pub dots_text : List ℕ → List ℕ
dots_text [] = []
dots_text (x ∷ xs) = 46 ∷ (decimal_text x ++ dots_text xs)

unfoldable pub dotted_text : List ℕ → List ℕ
dotted_text [] = 45 ∷ []
dotted_text (x ∷ xs) = decimal_text x ++ dots_text xs

-- ---- what a writer does

-- the text b is put into w at `at`: after is what w holds then, and r the place behind the text
pub record Puts (b : List ℕ) (at : ℕ) (w after : List ℕ) (r : ℕ) : Type 0 where
  pub lays : after ≡ laid at b w
  pub ends : r ≡ at + length b
