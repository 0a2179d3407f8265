-- Fields said in the words of a line, one after the other, in the form of the image; and what the code reads of them. Assumes nothing.
use Rattle.std.specs.Prelude.{◌≡◌, List, [], ◌∷◌, ◌++◌, ℕ, suc, ◌+◌, ◌*◌, ◌≤◌, length}
use Rattle.std.proofs.Math.Option.{Option, none, some, bind, Option-elim}
use Rattle.std.specs.Prelude.{Some, None}
use Rattle.rows.specs.Fields.{Field}
use Rattle.text_words.specs.Words.{longest, words_from}
use Rattle.text_fields.specs.FieldWords.{field_said}
use Rattle.text_fields.specs.Types.{Placed}

-- the bytes that the words in front say, and the words behind
pub record Said : Type 0 where
  pub of : List ℕ
  pub rest : List (List ℕ)

abbrev pub said : List ℕ → List (List ℕ) → Said
said b ws = record { of = b; rest = ws }

-- bytes in front of those that are said
abbrev pub after : List ℕ → Option Said → Option Said
after b none = none
after b (some s) = some (said (b ++ s.of) s.rest)

-- a word for each field
unfoldable pub fields_said : List Field → List (List ℕ) → Option Said
fields_said [] ws = some (said [] ws)
fields_said (k ∷ ks) [] = none
fields_said (k ∷ ks) (w ∷ ws) = bind (field_said k w) (λ b. after b (fields_said ks ws))

-- the bytes of the fields in front of the first word that is missing or malformed; of all fields, where none is
unfoldable pub fields_front : List Field → List (List ℕ) → List ℕ
fields_front [] ws = []
fields_front (k ∷ ks) [] = []
fields_front (k ∷ ks) (w ∷ ws) = Option-elim (field_said k w) [] (λ b. b ++ fields_front ks ws)

-- ---- how the code reads them

-- a place in a line that is not too long, and room behind a place of a buffer: an octet of the line makes four bytes at most
pub record Roomy (line : List ℕ) (at : ℕ) (out : List ℕ) (from : ℕ) : Type 0 where
  pub line_short : length line ≤ longest
  pub at_in : at ≤ suc (length line)
  pub room : from + 4 * suc (length line) ≤ length out + 4 * at

-- the bytes that are said end at `end`, and the next word begins at `next`
pub record Placing (end next from at : ℕ) (line : List ℕ) (s : Option Said) : Type 0 where
  pub of : List ℕ
  pub is : s ≡ some (said of (words_from next line))
  pub ends : end ≡ from + length of
  pub next_in : next ≤ suc (length line)
  pub short : end + 4 * at ≤ from + 4 * next

abbrev pub Places : Placed → (from at : ℕ) (line : List ℕ) → Option Said → Type 0
Places (Some (end, next)) from at line s = Placing end next from at line s
Places None from at line s = s ≡ none
