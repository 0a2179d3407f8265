-- Laws of a line read: the words that name what it asks for and the fields behind them, and what the slots that hold them say. Assumes nothing.
use mathlib.Core.Path.{◌≡◌, ◌∙◌}
use mathlib.Core.List.{List, []}
use mathlib.Core.Option.{Option, none, bind}
use Prim.Native.Nat.{ℕ, ◌≤◌, ◌<◌}
use native.Mathlib.Omega.{arith}
use lib.ListN.{length}
use borrow.Author.Tests.{le-leb, lt-leb}
use Rattle.rows.specs.declared.Table.{Table}
use Rattle.edit_rules.specs.declared.Operation.{Operation}
use Rattle.edit_rules.specs.Edits.{edit_of, caller_of}
use Rattle.edit_rules.specs.Types.{Edited}
use Rattle.edits.specs.Calls.{OwnerEdits, PrincipalEdits}
use Rattle.text_words.specs.Words.{longest, words, words_from}
use Rattle.text_rows.specs.declared.Slot.{Slot}
use Rattle.line_fields.specs.Kinds.{values_said}
use Rattle.line_fields.specs.Slots.{Fit, Whole}
use Rattle.line_fields.specs.Buffers.{Buffers, fields_into}
use Rattle.call_verbs.specs.declared.Verb.TheVariants.{Unknown}
use Rattle.call_verbs.specs.declared.Named.{Named}
use Rattle.call_verbs.specs.Calls.{phrase, phrase_of, kinds_of, Asked, phrase_said, line_said}
use Rattle.call_verbs.specs.Phrases.{Names}
use Rattle.call_verbs.specs.CallSlots.{asked_in}
use Rattle.call_verbs.proofs.CallSlots.{asked-held}
use Rattle.call_words.specs.declared.Read.{Read}
use Rattle.call_words.specs.Reading.{ReadsCall, line_into}

-- ---- a line read

pub long-into : (line : List ℕ) (b : Buffers) → longest < length line → b ≡ line_into line b
unfolding line_into
long-into line b h = rw (lt-leb (length line) longest h)

-- what nothing known says
pub reads_nothing : {slots : List Slot} (bytes parts : List ℕ) {said : Option Asked} → said ≡ none
    → ReadsCall (record { verb = Unknown; slots = slots }) bytes parts said
reads_nothing bytes parts e = record { values = []; means = e; holds = λ i h. absurd (omega arith) }

module _ (line : List ℕ) (h : length line ≤ longest) {r : Named} (n : Names r (phrase_of (words line)) line) where
  pub line-into : (b : Buffers) → fields_into (kinds_of r.verb) line (words_from r.next line) b ≡ line_into line b
  unfolding line_into
  line-into b = rw (le-leb (length line) longest h, n.is)

  named : line_said line ≡ phrase_said (phrase r.verb (words_from r.next line))
  unfolding line_said
  named = rw (le-leb (length line) longest h, n.is)

  pub line-nothing : values_said (kinds_of r.verb) (words_from r.next line) ≡ none → line_said line ≡ none
  unfolding bind
  line-nothing e = named ∙ rw e

  pub line_reads : {slots : List Slot} {bytes parts : List ℕ}
      → Whole slots (kinds_of r.verb) bytes parts (values_said (kinds_of r.verb) (words_from r.next line))
      → ReadsCall (record { verb = r.verb; slots = slots }) bytes parts (line_said line)
  unfolding bind
  line_reads f = record { values = f.values; means = named ∙ rw f.are; holds = f.holds }

-- ---- what the slots hold

module _ {r : Read} {bytes parts : List ℕ} {said : Option Asked} (c : ReadsCall r bytes parts said) where
  pub call-held : said ≡ asked_in r.verb r.slots bytes parts
  call-held = c.means ∙ asked-held r.verb r.slots bytes parts c.values c.holds

  pub call-fit : Fit r.slots (kinds_of r.verb) bytes parts
  call-fit = record { within = λ i h. (c.holds i h).within }

-- ---- calls by what they are handed

module _ (o : Operation) (t : Table) {found after : List ℕ} {r : Edited} where
  pub owner-as : {x y : List ℕ} → x ≡ y → OwnerEdits (edit_of o t x) found after r → OwnerEdits (edit_of o t y) found after r
  owner-as e p = rw (← e) p

  pub principal-as : {m m' : ℕ} {n n' : List ℕ} {l l' : ℕ} {x x' : List ℕ} → m ≡ m' → n ≡ n' → l ≡ l' → x ≡ x'
      → PrincipalEdits (caller_of m n l) (edit_of o t x) found after r → PrincipalEdits (caller_of m' n' l') (edit_of o t x') found after r
  principal-as a b c d p = rw (← a, ← b, ← c, ← d) p
