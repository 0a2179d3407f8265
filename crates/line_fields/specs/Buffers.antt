-- What reading the fields of a line leaves in the two lent buffers, be its words well-formed or not. Assumes nothing.
use Rattle.std.specs.Prelude.{Bool, true, false, List, [], ◌∷◌, ℕ, suc, ◌+◌, ◌-◌, ◌*◌, length}
use Rattle.std.proofs.Math.Option.{Option, Option-elim, get_or}
use Rattle.numbers.specs.Laid.{laid}
use Rattle.edit_rules.specs.declared.Operation.TheVariants.{Remove}
use Rattle.text_words.specs.Words.{hex_octets, dotted}
use Rattle.text_rows.specs.EntryWords.{entry_front}
use Rattle.line_fields.specs.declared.Kind.{Kind}
use Rattle.line_fields.specs.declared.Kind.TheVariants.{Number, Name, Identifier, Key, Edit}
use Rattle.line_fields.specs.Kinds.{number, operation_named, kind_said}
use Rattle.line_fields.specs.Slots.{in_parts}

pub record Buffers : Type 0 where
  pub bytes : List ℕ
  pub parts : List ℕ

abbrev pub buffers : (bytes parts : List ℕ) → Buffers
buffers bytes parts = record { bytes = bytes; parts = parts }

-- ---- a field: what is read of it in front of the first word that is missing or malformed; all of it, where none is

abbrev pub word_front : (List ℕ → Option (List ℕ)) → List (List ℕ) → List ℕ
word_front says [] = []
word_front says (w ∷ ws) = get_or (says w) []

abbrev pub edit_front : List ℕ → List (List ℕ) → List ℕ
edit_front w ws = Option-elim (operation_named w) [] (λ o. entry_front o ws)

unfoldable pub kind_front : Kind → List (List ℕ) → List ℕ
kind_front Number ws = word_front number ws
kind_front Name ws = word_front hex_octets ws
kind_front Identifier ws = word_front dotted ws
kind_front Key ws = entry_front Remove ws
kind_front Edit [] = []
kind_front Edit (w ∷ ws) = edit_front w ws

-- laid from a place on into the buffer of its kind; the other stays
abbrev pub laid_in : Bool → ℕ → List ℕ → Buffers → Buffers
laid_in true at x b = buffers b.bytes (laid at x b.parts)
laid_in false at x b = buffers (laid at x b.bytes) b.parts

-- ---- the fields of a line

-- how many octets words take at the end of a line, each with the space in front of it
unfoldable pub spaced : List (List ℕ) → ℕ
spaced [] = 0
spaced (w ∷ ws) = suc (length w + spaced ws)

-- where the first of the last words of a line begins
abbrev pub place_in : List ℕ → List (List ℕ) → ℕ
place_in line ws = suc (length line) - spaced ws

-- an octet of the line makes four bytes or parts at most
abbrev pub field_into : Kind → List ℕ → List (List ℕ) → Buffers → Buffers
field_into k line ws b = laid_in (in_parts k) (4 * place_in line ws) (kind_front k ws) b

-- the last words of a line read by kinds, up to the first field that is not said
unfoldable pub fields_into : List Kind → List ℕ → List (List ℕ) → Buffers → Buffers
fields_into [] line ws b = b
fields_into (k ∷ ks) line ws b = Option-elim (kind_said k ws) (field_into k line ws b) (λ f. fields_into ks line f.rest (field_into k line ws b))
