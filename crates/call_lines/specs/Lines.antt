-- What a line asks for, and the line that is printed for it. Assumes nothing.
use Rattle.std.specs.Prelude.{List, [], ◌∷◌, ◌++◌, ℕ, ◌+◌, ◌≤◌, length}
use Rattle.std.proofs.Math.Option.{Option, Option-elim}
use Rattle.text_values.specs.Texts.{decimal_text, Puts}
use Rattle.call_verbs.specs.Calls.{Asked, line_said}
use Rattle.set_words.specs.SetWords.{set_said, set_words}
use Rattle.call_answers.specs.Answers.{answer_room}
use Rattle.call_plays.specs.Plays.{Plays}

-- ---- what a line asks for: a set of edits, or what the words in front name

unfoldable pub line_asks : List ℕ → Option Asked
line_asks line = Option-elim (set_words line) (line_said line) set_said

-- ---- what is printed

-- room for it
abbrev pub line_room : ℕ
line_room = answer_room + 22

-- the line's number, a space, the answer and a newline
abbrev pub line_text : ℕ → List ℕ → List ℕ
line_text number text = decimal_text number ++ (32 ∷ (text ++ (10 ∷ [])))

-- it is put at the front of the buffer
pub record PutsLine (call : Option Asked) (number : ℕ) (found after w out : List ℕ) (r : ℕ) : Type 0 where
  pub text : List ℕ
  pub plays : Plays call found after text
  pub puts : Puts (line_text number text) 0 w out r
  pub fits : length (line_text number text) ≤ length w
