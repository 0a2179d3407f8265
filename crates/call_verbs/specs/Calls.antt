-- A line of the program `trycalls`, read as what it asks for:
--
--     decide MODEL LEVEL KIND NAME CONTEXT VARIABLE                          explain, with the words of decide
--     owner EDIT               principal MODEL NAME LEVEL EDIT               walk MODEL NAME LEVEL OID
--     encode COLUMN KEY        decode OID        image
--     match view NAME VARIABLE                   match access GROUP CONTEXT MODEL LEVEL
--
-- The words in front name the kinds of the fields behind them (`line_fields/specs/Kinds.antt`), and the meaning picks their values by place.
-- The line `set` is read apart (`set_words/specs/SetWords.antt`). Assumes nothing.
use Rattle.std.specs.Prelude.{cond, List, [], ◌∷◌, ℕ, leb, length}
use Rattle.std.proofs.Math.Option.{Option, none, some, bind}
use Rattle.numbers.specs.Lists.{find}
use Rattle.numbers.specs.Order.{same}
use Rattle.rows.specs.declared.Table.{Table}
use Rattle.rows.specs.declared.Table.TheVariants.{Access, View}
use Rattle.decision_steps.specs.Request.{Request}
use Rattle.edit_rules.specs.Edits.{Caller, caller_of}
use Rattle.calls.specs.Does.{Call, ask, owner, by, walk}
use Rattle.text_words.specs.Words.{longest, words}
use Rattle.text_rows.specs.TableWords.{table_word}
use Rattle.line_fields.specs.declared.Kind.{Kind}
use Rattle.line_fields.specs.declared.Kind.TheVariants.{Number, Name, Identifier, Key, Edit}
use Rattle.line_fields.specs.Kinds.{Value, value_at, parts_at, number_at, edit_at, values_said}
use Rattle.line_fields.specs.Requests.{request_kinds, request_of}
use Rattle.call_verbs.specs.declared.Verb.{Verb}
use Rattle.call_verbs.specs.declared.Verb.TheVariants.{Decide, Owner, Principal, Encode, Decode, Image, MatchView, MatchAccess, Walk, Explain}
use Rattle.call_verbs.specs.declared.Verb.TheVariants.{Unknown}

-- ---- the words that name what a line asks for

-- the last of its words: decide, owner, principal, encode, decode, image, a table's, walk, explain; no word names the unknown
abbrev pub verb_word : Verb → List ℕ
verb_word Decide = 100 ∷ 101 ∷ 99 ∷ 105 ∷ 100 ∷ 101 ∷ []
verb_word Owner = 111 ∷ 119 ∷ 110 ∷ 101 ∷ 114 ∷ []
verb_word Principal = 112 ∷ 114 ∷ 105 ∷ 110 ∷ 99 ∷ 105 ∷ 112 ∷ 97 ∷ 108 ∷ []
verb_word Encode = 101 ∷ 110 ∷ 99 ∷ 111 ∷ 100 ∷ 101 ∷ []
verb_word Decode = 100 ∷ 101 ∷ 99 ∷ 111 ∷ 100 ∷ 101 ∷ []
verb_word Image = 105 ∷ 109 ∷ 97 ∷ 103 ∷ 101 ∷ []
verb_word MatchView = table_word View
verb_word MatchAccess = table_word Access
verb_word Walk = 119 ∷ 97 ∷ 108 ∷ 107 ∷ []
verb_word Explain = 101 ∷ 120 ∷ 112 ∷ 108 ∷ 97 ∷ 105 ∷ 110 ∷ []
verb_word Unknown = []

-- those of one word
abbrev pub verbs : List Verb
verbs = Decide ∷ Owner ∷ Principal ∷ Encode ∷ Decode ∷ Image ∷ Walk ∷ Explain ∷ []

-- those of two, the first of which is `match`
abbrev pub match_verbs : List Verb
match_verbs = MatchView ∷ MatchAccess ∷ []

abbrev pub match_word : List ℕ
match_word = 109 ∷ 97 ∷ 116 ∷ 99 ∷ 104 ∷ []

abbrev pub or_unknown : Option Verb → Verb
or_unknown none = Unknown
or_unknown (some v) = v

unfoldable pub verb_named : List Verb → List ℕ → Verb
verb_named vs w = or_unknown (find (λ v. same (verb_word v) w) vs)

-- what words name, and those behind the words that name it
pub record Phrase : Type 0 where
  pub verb : Verb
  pub rest : List (List ℕ)

abbrev pub phrase : Verb → List (List ℕ) → Phrase
phrase v ws = record { verb = v; rest = ws }

abbrev pub match_phrase : List (List ℕ) → Phrase
match_phrase [] = phrase Unknown []
match_phrase (w ∷ ws) = phrase (verb_named match_verbs w) ws

unfoldable pub phrase_of : List (List ℕ) → Phrase
phrase_of [] = phrase Unknown []
phrase_of (w ∷ ws) = cond (same w match_word) (match_phrase ws) (phrase (verb_named verbs w) ws)

-- ---- the fields behind each, and what they mean

abbrev pub kinds_of : Verb → List Kind
kinds_of Decide = request_kinds
kinds_of Owner = Edit ∷ []
kinds_of Principal = Number ∷ Name ∷ Number ∷ Edit ∷ []
kinds_of Encode = Number ∷ Key ∷ []
kinds_of Decode = Identifier ∷ []
kinds_of Image = []
kinds_of MatchView = Name ∷ Identifier ∷ []
kinds_of MatchAccess = Name ∷ Name ∷ Number ∷ Number ∷ []
kinds_of Walk = Number ∷ Name ∷ Number ∷ Identifier ∷ []
kinds_of Explain = request_kinds
kinds_of Unknown = []

-- a call on a store (`calls/specs/Does.antt`), an instance of a table, a column and a key, an identifier that may be one, the image, the row
-- of a view that decides on a variable, the access row that is chosen, an answer and the rows behind it
pub data Asked : Type 0 where
  calls : Call → Asked
  encodes : Table → ℕ → List ℕ → Asked
  decodes : List ℕ → Asked
  images : Asked
  matches_view : (name variable : List ℕ) → Asked
  matches_access : (group context : List ℕ) (model level : ℕ) → Asked
  explains : Request → Asked

-- a principal's model, name and level come first
abbrev pub caller_at : List Value → Caller
caller_at vs = caller_of (number_at 0 vs) (parts_at 1 vs) (number_at 2 vs)

abbrev pub meaning : Verb → List Value → Option Asked
meaning Decide vs = some (calls (ask (request_of vs)))
meaning Owner vs = some (calls (owner (edit_at 0 vs)))
meaning Principal vs = some (calls (by (caller_at vs) (edit_at 3 vs)))
meaning Encode vs = some (encodes (value_at 1 vs).table (number_at 0 vs) (parts_at 1 vs))
meaning Decode vs = some (decodes (parts_at 0 vs))
meaning Image vs = some images
meaning MatchView vs = some (matches_view (parts_at 0 vs) (parts_at 1 vs))
meaning MatchAccess vs = some (matches_access (parts_at 0 vs) (parts_at 1 vs) (number_at 2 vs) (number_at 3 vs))
meaning Walk vs = some (calls (walk (caller_at vs) (parts_at 3 vs)))
meaning Explain vs = some (explains (request_of vs))
meaning Unknown vs = none

abbrev pub phrase_said : Phrase → Option Asked
phrase_said p = bind (values_said (kinds_of p.verb) p.rest) (meaning p.verb)

-- a longer line asks for nothing
unfoldable pub line_said : List ℕ → Option Asked
line_said line = cond (leb (length line) longest) (phrase_said (phrase_of (words line))) none
