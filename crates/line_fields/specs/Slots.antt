-- What the code reads of the fields of a line: for each a slot, which says what part of a lent buffer holds it. Assumes nothing.
use Rattle.std.specs.Prelude.{◌≡◌, Bool, true, false, List, ℕ, suc, ◌+◌, ◌*◌, ◌≤◌, ◌<◌, length, take, get_or, replicate}
use Rattle.std.proofs.Math.Option.{Option, none, some}
use Rattle.std.specs.Prelude.{Some, None}
use Rattle.edit_rules.specs.declared.Operation.TheVariants.{Create}
use Rattle.rows.specs.declared.Table.TheVariants.{Context}
use Rattle.text_words.specs.Words.{longest, between, words_from}
use Rattle.text_words.specs.Types.{Filled}
use Rattle.text_rows.specs.declared.Slot.{Slot}
use Rattle.text_rows.specs.Types.{Found}
use Rattle.line_fields.specs.declared.Kind.{Kind}
use Rattle.line_fields.specs.declared.Kind.TheVariants.{Number, Name, Identifier, Key, Edit}
use Rattle.line_fields.specs.declared.Fields.{Fields}
use Rattle.line_fields.specs.Kinds.{Value, value_of, value_at, Taken, taken}

-- the most fields of a line
abbrev pub most_fields : ℕ
most_fields = 6

-- room for what a line says: an octet of it makes four bytes or parts at most
abbrev pub line_room : ℕ
line_room = 4 * suc longest

-- numbers and identifiers are held in the buffer of parts, everything else in that of bytes
abbrev pub in_parts : Kind → Bool
in_parts Number = true
in_parts Name = false
in_parts Identifier = true
in_parts Key = false
in_parts Edit = false

-- of two things, that of the buffer
abbrev pub side : {A : Type 0} → Bool → A → A → A
side true bytes parts = parts
side false bytes parts = bytes

-- a kind and a slot by its place; past the end any will do
abbrev pub kind_in : List Kind → ℕ → Kind
kind_in ks i = get_or ks i Number

abbrev pub plain_slot : (from end : ℕ) → Slot
plain_slot from end = record { operation = Create; table = Context; from = from; end = end }

abbrev pub slot_in : List Slot → ℕ → Slot
slot_in ss i = get_or ss i (plain_slot 0 0)

abbrev pub no_slots : List Slot
no_slots = replicate most_fields (plain_slot 0 0)

-- the part of its buffer that a slot holds, and the number there
abbrev pub part_in : Slot → List ℕ → List ℕ
part_in s w = between s.from s.end w

abbrev pub number_in : Slot → List ℕ → ℕ
number_in s parts = get_or (part_in s parts) 0 0

-- the value that a slot holds
abbrev pub value_in : Slot → List ℕ → Value
value_in s w = value_of s.operation s.table (part_in s w)

pub record Within (s : Slot) (end : ℕ) : Type 0 where
  pub forward : s.from ≤ s.end
  pub inside : s.end ≤ end

pub record Holds (s : Slot) (v : Value) (w : List ℕ) : Type 0 where
  pub is : v ≡ value_in s w
  pub within : Within s (length w)

-- ---- a field

-- a line that is not too long, a place in it, and buffers for what it says
pub record Lent (line : List ℕ) (at : ℕ) (bytes parts : List ℕ) : Type 0 where
  pub line_short : length line ≤ longest
  pub at_in : at ≤ suc (length line)
  pub bytes_room : line_room ≤ length bytes
  pub parts_room : line_room ≤ length parts

-- its value lies where the slot says, from `from` on and in front of what the words from `next` on make
pub record Lies (s : Slot) (next from at : ℕ) (line : List ℕ) (said : Option Taken) : Type 0 where
  pub of : List ℕ
  pub is : said ≡ some (taken (value_of s.operation s.table of) (words_from next line))
  pub begins : s.from ≡ from
  pub ends : s.end ≡ from + length of
  pub short : s.end + 4 * at ≤ from + 4 * next
  pub next_in : next ≤ suc (length line)

abbrev pub Finds : Found → (from at : ℕ) (line : List ℕ) → Option Taken → Type 0
Finds (Some (s, next)) from at line said = Lies s next from at line said
Finds None from at line said = said ≡ none

-- what one word was read into
abbrev pub word_found : Filled → (from next : ℕ) → Found
word_found (Some end) from next = Some ((plain_slot from end), next)
word_found None from next = None

-- ---- the fields of a line

-- so many kinds, of an array
pub record Kinds (n : ℕ) (kinds : List Kind) : Type 0 where
  pub few : n ≤ most_fields
  pub inside : n ≤ length kinds

-- kinds at the front of an array that has room for them all
pub record Lists (kinds all : List Kind) : Type 0 where
  pub first_are : take (length kinds) all ≡ kinds
  pub room : length all ≡ most_fields

-- a slot for each kind holds its value
pub record Whole (slots : List Slot) (kinds : List Kind) (bytes parts : List ℕ) (said : Option (List Value)) : Type 0 where
  pub values : List Value
  pub are : said ≡ some values
  pub holds : (i : ℕ) → i < length kinds → Holds (slot_in slots i) (value_at i values) (side (in_parts (kind_in kinds i)) bytes parts)

-- each slot lies in the buffer of its kind
pub record Fit (slots : List Slot) (kinds : List Kind) (bytes parts : List ℕ) : Type 0 where
  pub within : (i : ℕ) → i < length kinds → Within (slot_in slots i) (length (side (in_parts (kind_in kinds i)) bytes parts))

pub record ReadsFields (r : Fields) (kinds : List Kind) (bytes parts : List ℕ) (said : Option (List Value)) : Type 0 where
  pub whole_is : r.whole ≡ true → Whole r.slots kinds bytes parts said
  pub not_whole : r.whole ≡ false → said ≡ none
