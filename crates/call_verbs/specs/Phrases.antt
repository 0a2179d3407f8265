-- What the code reads of the words that name what a line asks for. Assumes nothing.
use Rattle.std.specs.Prelude.{◌≡◌, List, ℕ, suc, ◌≤◌, length}
use Rattle.text_words.specs.Words.{words_from}
use Rattle.call_verbs.specs.declared.Named.{Named}
use Rattle.call_verbs.specs.Calls.{Phrase, phrase}

-- the phrase, its other words being those from a place of the line on
pub record Names (r : Named) (p : Phrase) (line : List ℕ) : Type 0 where
  pub is : p ≡ phrase r.verb (words_from r.next line)
  pub next_in : r.next ≤ suc (length line)
