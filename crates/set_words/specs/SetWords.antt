-- A line of the program `trycalls` that asks for a set of edits:
--
--     set MODEL NAME LEVEL [EDIT {; EDIT}]
--
-- The word `;` stands between two edits (`line_fields/specs/Kinds.antt`), of which there may be as many as one likes; no edit is the empty set.
-- Assumes nothing.
use Rattle.std.specs.Prelude.{cond, List, [], ◌∷◌, ℕ, zero, suc, leb, length, get_or}
use Rattle.std.proofs.Math.Option.{Option, none, some, bind, map}
use Rattle.numbers.specs.Order.{same}
use Rattle.edit_rules.specs.Edits.{Edit, Caller, edit_of, caller_of}
use Rattle.calls.specs.Does.{by_set}
use Rattle.text_words.specs.Words.{longest, words}
use Rattle.line_fields.specs.declared.Kind.TheVariants.{Number, Name, Edit as Kind-as-Edit}
use Rattle.line_fields.specs.Kinds.{Value, kind_said}
use Rattle.call_verbs.specs.Calls.{Asked, calls}

-- ---- the edits

-- `;`
abbrev pub separator : List ℕ
separator = 59 ∷ []

abbrev pub edit_by : Value → Edit
edit_by v = edit_of v.operation v.table v.parts

-- behind an edit stands no word, or `;` and further edits
abbrev pub behind_said : (List (List ℕ) → Option (List Edit)) → List (List ℕ) → Option (List Edit)
behind_said further [] = some []
behind_said further (w ∷ ws) = cond (same w separator) (further ws) none

-- one edit or more, n at most
unfoldable pub some_said : ℕ → List (List ℕ) → Option (List Edit)
some_said zero ws = none
some_said (suc n) ws = bind (kind_said Kind-as-Edit ws) (λ f. map (λ es. edit_by f.value ∷ es) (behind_said (some_said n) f.rest))

-- no word says no edit; there are no more edits than words
unfoldable pub edits_said : List (List ℕ) → Option (List Edit)
edits_said [] = some []
edits_said (w ∷ ws) = some_said (suc (length ws)) (w ∷ ws)

-- ---- the principal

-- who calls, and the words behind
pub record Calling : Type 0 where
  pub caller : Caller
  pub rest : List (List ℕ)

abbrev pub calling : Caller → List (List ℕ) → Calling
calling c ws = record { caller = c; rest = ws }

abbrev pub number_by : Value → ℕ
number_by v = get_or v.parts 0 0

-- model, name, level
unfoldable pub caller_said : List (List ℕ) → Option Calling
caller_said ws =
    bind (kind_said Number ws) (λ m.
    bind (kind_said Name m.rest) (λ n.
    map (λ l. calling (caller_of (number_by m.value) n.value.parts (number_by l.value)) l.rest) (kind_said Number n.rest)))

-- ---- the set

unfoldable pub set_said : List (List ℕ) → Option Asked
set_said ws = bind (caller_said ws) (λ c. map (λ es. calls (by_set c.caller es)) (edits_said c.rest))

-- ---- the line

-- `set`
abbrev pub set_word : List ℕ
set_word = 115 ∷ 101 ∷ 116 ∷ []

abbrev pub behind_set : List (List ℕ) → Option (List (List ℕ))
behind_set [] = none
behind_set (w ∷ ws) = cond (same w set_word) (some ws) none

-- the words behind `set`, of a line that begins with it and is not too long
unfoldable pub set_words : List ℕ → Option (List (List ℕ))
set_words line = cond (leb (length line) longest) (behind_set (words line)) none
