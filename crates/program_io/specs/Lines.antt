-- The lines of an input, and a line that comes in pieces: of one that is too long no more is kept than there is room for. Octets are ASCII: 10 newline.
-- Assumes nothing.
use Rattle.std.specs.Prelude.{◌≡◌, List, [], ◌∷◌, ℕ, suc, ◌+◌, ◌-◌, ◌≤◌, length, take, drop}
use Rattle.numbers.specs.Laid.{laid}
use Rattle.text_words.specs.Words.{split, run, longest}
use Rattle.program_io.specs.declared.Continued.{Continued}

-- ---- the lines of an input

-- what stands behind the last newline is a line, unless it is empty
abbrev pub ended : List (List ℕ) → List (List ℕ)
ended [] = []
ended ([] ∷ []) = []
ended ((x ∷ p) ∷ []) = (x ∷ p) ∷ []
ended (p ∷ q ∷ ps) = p ∷ ended (q ∷ ps)

unfoldable pub lines_of : List ℕ → List (List ℕ)
lines_of input = ended (split 10 input)

-- what is kept of a line: all of it, or so much that it shows to be too long
abbrev pub keep : List ℕ → List ℕ
keep line = take (suc longest) line

unfoldable pub kept : List (List ℕ) → List (List ℕ)
kept [] = []
kept (line ∷ lines) = keep line ∷ kept lines

-- ---- a line that comes in pieces

-- what goes on a line of which `begun` octets are there: those up to a newline, or all, as far as there is room
abbrev pub goes_on : ℕ → ℕ → List ℕ → List ℕ
goes_on begun room v = take (room - begun) (take (run 10 v) v)

-- it stands behind the first `begun` octets of `line`
pub record Continues (c : Continued) (line line' : List ℕ) (begun : ℕ) (piece : List ℕ) (at : ℕ) : Type 0 where
  pub ends : c.end ≡ at + run 10 (drop at piece)
  pub ends_in : c.end ≤ length piece
  pub line_is : line' ≡ laid begun (goes_on begun (length line) (drop at piece)) line
  pub begun_is : c.begun ≡ begun + length (goes_on begun (length line) (drop at piece))
