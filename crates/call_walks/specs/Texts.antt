-- The text of a walk's answer, and a walk told. Assumes nothing.
use Rattle.std.specs.Prelude.{List, [], ◌∷◌, ◌++◌, ℕ}
use Rattle.rows.specs.declared.Table.{Table}
use Rattle.edit_rules.specs.Edits.{Caller}
use Rattle.walk_rules.specs.declared.Walked.{Walked}
use Rattle.walk_rules.specs.declared.Walked.TheVariants.{Next, EndOfMibView, Denied, Faulty}
use Rattle.walk_rules.specs.Numbers.{walked_number}
use Rattle.walk_rules.specs.Walk.{Walk}
use Rattle.calls.specs.Does.{walk, walked, Does}
use Rattle.text_values.specs.Texts.{decimal_text, dotted_text}
use Rattle.call_answers.specs.Answers.{column_key_of, Told}

-- "next "
abbrev pub next_word : List ℕ
next_word = 110 ∷ 101 ∷ 120 ∷ 116 ∷ 32 ∷ []

-- an instance's identifier, its column, and its key as a decoded one's
abbrev pub next_text : (instance : List ℕ) → Table → (column : ℕ) → (key : List ℕ) → List ℕ
next_text instance t column key = next_word ++ (dotted_text instance ++ (32 ∷ column_key_of t column key))

-- a refusal by its number
abbrev pub walked_text : Walked → (instance key : List ℕ) → List ℕ
walked_text (Next n t column m) instance key = next_text instance t column key
walked_text EndOfMibView instance key = decimal_text (walked_number EndOfMibView)
walked_text (Denied cause) instance key = decimal_text (walked_number (Denied cause))
walked_text (Faulty fault) instance key = decimal_text (walked_number (Faulty fault))

abbrev pub walk_text : Walk → List ℕ
walk_text w = walked_text w.answer w.identifier w.key

-- the call does what it promises, and what it hands back is told
pub record TellsWalk (c : Caller) (identifier store : List ℕ) (at : ℕ) (w after : List ℕ) (r : ℕ) : Type 0 where
  pub handed_back : Walk
  pub does : Does store (walk c identifier) (walked handed_back) store
  pub told : Told (walk_text handed_back) at w after r
