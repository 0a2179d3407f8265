-- What the code reads of a set of edits: the principal, and of each edit where its bytes lie. Assumes nothing.
use Rattle.std.specs.Prelude.{◌≡◌, true, false, List, [], ◌∷◌, ℕ, suc, ◌+◌, ◌*◌, ◌≤◌, ◌<◌, length, set, replicate}
use Rattle.std.proofs.Math.Option.{Option, none, some}
use Rattle.std.specs.Prelude.{Some, None}
use Rattle.numbers.specs.Order.{same}
use Rattle.edit_rules.specs.Edits.{Edit, caller_of}
use Rattle.set_rules.specs.declared.SetEdit.{SetEdit}
use Rattle.set_rules.specs.declared.EditSet.{EditSet}
use Rattle.set_rules.specs.Sets.{most_edits}
use Rattle.set_rules.specs.Handed.{no_edit, edits_of}
use Rattle.text_words.specs.Words.{longest, words_from}
use Rattle.text_words.specs.Types.{Word}
use Rattle.text_rows.specs.declared.Slot.{Slot}
use Rattle.line_fields.specs.Slots.{part_in, Within}
use Rattle.set_words.specs.Types.{PrincipalRead}
use Rattle.set_words.specs.declared.Behind.{Behind}
use Rattle.set_words.specs.declared.ReadSet.{ReadSet}
use Rattle.set_words.specs.SetWords.{set_words, separator, Calling, calling}

-- ---- the word `set`

pub record Begun (end : ℕ) (line : List ℕ) : Type 0 where
  pub is : set_words line ≡ some (words_from (end + 1) line)
  pub short : length line ≤ longest
  pub inside : end ≤ length line

abbrev pub Begins : Word → List ℕ → Type 0
Begins (Some end) line = Begun end line
Begins None line = set_words line ≡ none

-- ---- the principal: its name lies in front of what the words from `next` on make

pub record Called (model : ℕ) (name : Slot) (level next : ℕ) (line bytes : List ℕ) (said : Option Calling) : Type 0 where
  pub is : said ≡ some (calling (caller_of model (part_in name bytes) level) (words_from next line))
  pub within : Within name (4 * next)
  pub next_in : next ≤ suc (length line)

abbrev pub Calls : PrincipalRead → (line bytes : List ℕ) → Option Calling → Type 0
Calls (Some p) line bytes said = Called p.model p.name p.level p.next line bytes said
Calls None line bytes said = said ≡ none

-- ---- what stands behind an edit: `;` and the next edit, or a word over

pub record Parted (next at : ℕ) (line : List ℕ) : Type 0 where
  pub is : words_from at line ≡ separator ∷ words_from next line
  pub forward : at < next
  pub next_in : next ≤ suc (length line)

pub record Over (at : ℕ) (line : List ℕ) : Type 0 where
  pub word : List ℕ
  pub rest : List (List ℕ)
  pub is : words_from at line ≡ word ∷ rest
  pub other : same word separator ≡ false

abbrev pub Stands : Behind → (at : ℕ) (line : List ℕ) → Type 0
Stands Behind.Nothing at line = words_from at line ≡ []
Stands (Behind.Edit next) at line = Parted next at line
Stands Behind.Malformed at line = Over at line

-- ---- the edits

-- a set of none, and one with an edit more: one that has no place is only counted
abbrev pub no_edits : EditSet
no_edits = record { edits = replicate most_edits no_edit; count = 0 }

abbrev pub placed : Slot → SetEdit
placed s = record { operation = s.operation; table = s.table; from = s.from; end = s.end }

abbrev pub with_edit : EditSet → Slot → EditSet
with_edit s e = record { edits = set s.edits s.count (placed e); count = s.count + 1 }

-- each that is said lies where the set says; of more than a set has, only how many there are is told
pub record Says (s : EditSet) (bytes : List ℕ) (said : Option (List Edit)) : Type 0 where
  pub edits : List Edit
  pub are : said ≡ some edits
  pub count_is : s.count ≡ length edits
  pub held : length edits ≤ most_edits → edits_of s bytes ≡ edits

pub record ReadsEdits (r : ReadSet) (bytes : List ℕ) (said : Option (List Edit)) : Type 0 where
  pub whole_is : r.whole ≡ true → Says r.set bytes said
  pub not_whole : r.whole ≡ false → said ≡ none
