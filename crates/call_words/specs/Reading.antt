-- What the code reads of a line: what it asks for, and a slot for each field; and a call made. Assumes nothing.
use Rattle.std.specs.Prelude.{◌≡◌, cond, List, ℕ, ◌≤◌, ◌<◌, leb, length}
use Rattle.std.proofs.Math.Option.{Option}
use Rattle.calls.specs.Does.{Call, Reply, reply_number, Does}
use Rattle.text_words.specs.Words.{longest, words}
use Rattle.line_fields.specs.Kinds.{Value, value_at}
use Rattle.line_fields.specs.Slots.{line_room, side, in_parts, kind_in, slot_in, Holds}
use Rattle.line_fields.specs.Buffers.{Buffers, fields_into}
use Rattle.call_verbs.specs.Calls.{Phrase, phrase_of, kinds_of, Asked, meaning}
use Rattle.call_words.specs.declared.Read.{Read}

-- ---- a line

-- buffers for what a line says
pub record Rooms (bytes parts : List ℕ) : Type 0 where
  pub bytes_room : line_room ≤ length bytes
  pub parts_room : line_room ≤ length parts

-- the values of its fields, each held by its slot, mean what is asked for
pub record ReadsCall (r : Read) (bytes parts : List ℕ) (said : Option Asked) : Type 0 where
  pub values : List Value
  pub means : said ≡ meaning r.verb values
  pub holds : (i : ℕ) → i < length (kinds_of r.verb)
      → Holds (slot_in r.slots i) (value_at i values) (side (in_parts (kind_in (kinds_of r.verb) i)) bytes parts)

-- what is left in the buffers: the fields behind the words that name them, read by their kinds
abbrev pub phrase_into : List ℕ → Phrase → Buffers → Buffers
phrase_into line p b = fields_into (kinds_of p.verb) line p.rest b

-- a longer line leaves both as found
unfoldable pub line_into : List ℕ → Buffers → Buffers
line_into line b = cond (leb (length line) longest) (phrase_into line (phrase_of (words line)) b) b

-- ---- a call made

-- it does what it promises, and its answer has that number
pub record Answers (call : Call) (found after : List ℕ) (n : ℕ) : Type 0 where
  pub reply : Reply
  pub does : Does found call reply after
  pub number_is : n ≡ reply_number reply
