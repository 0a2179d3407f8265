-- The words of a line, and what a word may say: a number, a name in hex, an identifier (document 01, the program `tryreq`).
-- Octets are ASCII: 32 space, 45 `-`, 46 `.`, 48 to 57 the digits. Assumes nothing.
use Rattle.std.specs.Prelude.{◌≡◌, Bool, true, false, cond, List, [], ◌∷◌, ℕ, suc, ◌+◌, ◌-◌, ◌*◌, ◌≤◌, eqb, ltb, leb, length, take, drop}
use Rattle.std.proofs.Math.Option.{Option, none, some}
use Rattle.std.specs.Prelude.{Some, None}
use Rattle.numbers.specs.Laid.{laid}
use Rattle.numbers.specs.Order.{same}
use Rattle.rows.specs.Fields.{within}
use Rattle.text_words.specs.Types.{Word}
use Rattle.text_words.specs.Types.{Number}
use Rattle.text_words.specs.Types.{Filled}

-- ---- words

-- the most octets of a line, its newline not counted
abbrev pub longest : ℕ
longest = 2048

-- the octets from one place up to another
abbrev pub between : ℕ → ℕ → List ℕ → List ℕ
between from end s = take (end - from) (drop from s)

-- an octet in front of the first part
abbrev pub longer : ℕ → List (List ℕ) → List (List ℕ)
longer x [] = (x ∷ []) ∷ []
longer x (p ∷ ps) = (x ∷ p) ∷ ps

-- octets cut at each mark: n marks make n + 1 parts, of which any may be empty
unfoldable pub split : ℕ → List ℕ → List (List ℕ)
split mark [] = [] ∷ []
split mark (x ∷ xs) = cond (eqb x mark) ([] ∷ split mark xs) (longer x (split mark xs))

-- one space between words; a further space makes an empty word, and no word below may be empty
abbrev pub words : List ℕ → List (List ℕ)
words line = split 32 line

-- the words from the one that begins at a place on: behind the line's end there is none
unfoldable pub words_from : ℕ → List ℕ → List (List ℕ)
words_from at line = cond (leb at (length line)) (words (drop at line)) []

-- the place of a word among others; behind them all, where it is none of them
unfoldable pub place : List ℕ → List (List ℕ) → ℕ
place w [] = 0
place w (v ∷ vs) = cond (same v w) 0 (suc (place w vs))

-- how many octets stand before the first mark
unfoldable pub run : ℕ → List ℕ → ℕ
run mark [] = 0
run mark (x ∷ xs) = cond (eqb x mark) 0 (suc (run mark xs))

-- the code's answers: where the first mark from `at` on stands, or the end; and where the word that begins at `at` ends
pub record Ends (mark : ℕ) (s : List ℕ) (at r : ℕ) : Type 0 where
  pub ends : r ≡ at + run mark (drop at s)
  pub inside : r ≤ length s

unfoldable pub word_at : ℕ → List ℕ → Word
word_at at line = cond (leb at (length line)) (Some (at + run 32 (drop at line))) None

-- ---- a number: one or more digits, its value below 2^32

-- what further digits make of the number n
unfoldable pub digits_from : ℕ → List ℕ → Option ℕ
digits_from n [] = some n
digits_from n (c ∷ cs) = cond (within 48 57 c) (digits_from (n * 10 + (c - 48)) cs) none

abbrev pub below32 : Option ℕ → Option ℕ
below32 none = none
below32 (some n) = cond (ltb n 4294967296) (some n) none

unfoldable pub decimal : List ℕ → Option ℕ
decimal [] = none
decimal (c ∷ cs) = below32 (digits_from 0 (c ∷ cs))

-- the number that the code reads
abbrev pub number_of : Number → Option ℕ
number_of (Some n) = some n
number_of None = none

-- ---- a list of what each part says, if each says something

abbrev pub also : Option ℕ → Option (List ℕ) → Option (List ℕ)
also none xs = none
also (some x) none = none
also (some x) (some xs) = some (x ∷ xs)

-- whether something is said
abbrev pub is_said : {A : Type 0} → Option A → Bool
is_said none = false
is_said (some x) = true

-- `-` is the empty name and the empty identifier
abbrev pub dash : List ℕ
dash = 45 ∷ []

-- ---- a name: `-`, or one or more octets of two hex digits each, in lower or upper case

unfoldable pub hex_digit : ℕ → Option ℕ
hex_digit c =
    cond (within 48 57 c) (some (c - 48)) (cond (within 97 102 c) (some (c - 87)) (cond (within 65 70 c) (some (c - 55)) none))

abbrev pub hex_pair : Option ℕ → Option ℕ → Option ℕ
hex_pair none low = none
hex_pair (some h) none = none
hex_pair (some h) (some l) = some (h * 16 + l)

-- the octet of a pair; a digit alone says none
abbrev pub hex_octet : List ℕ → Option ℕ
hex_octet (a ∷ b ∷ []) = hex_pair (hex_digit a) (hex_digit b)
hex_octet w = none

unfoldable pub hex_pairs : List ℕ → Option (List ℕ)
hex_pairs [] = some []
hex_pairs (a ∷ []) = none
hex_pairs (a ∷ b ∷ cs) = also (hex_pair (hex_digit a) (hex_digit b)) (hex_pairs cs)

unfoldable pub hex_octets : List ℕ → Option (List ℕ)
hex_octets [] = none
hex_octets (c ∷ cs) = cond (same (c ∷ cs) dash) (some []) (hex_pairs (c ∷ cs))

-- ---- an identifier: `-`, or numbers with one dot between two of them

unfoldable pub decimals : List (List ℕ) → Option (List ℕ)
decimals [] = some []
decimals (p ∷ ps) = also (decimal p) (decimals ps)

unfoldable pub dotted : List ℕ → Option (List ℕ)
dotted word = cond (same word dash) (some []) (decimals (split 46 word))

-- ---- what the code reads into a lent buffer

-- what is said was laid into `found` from `from` on, up to n, of `most` elements at most, and nothing else changed
pub record Filling (n from most : ℕ) (found out : List ℕ) (said : Option (List ℕ)) : Type 0 where
  pub of : List ℕ
  pub is : said ≡ some of
  pub lays : out ≡ laid from of found
  pub ends : n ≡ from + length of
  pub inside : n ≤ length found
  pub short : n ≤ from + most

-- nothing is said, and nothing changed
pub record Unfilled {A : Type 0} (found out : List ℕ) (said : Option A) : Type 0 where
  pub is : said ≡ none
  pub kept : out ≡ found

abbrev pub Fills : Filled → (from most : ℕ) (found out : List ℕ) → Option (List ℕ) → Type 0
Fills (Some n) from most found out said = Filling n from most found out said
Fills None from most found out said = Unfilled found out said
