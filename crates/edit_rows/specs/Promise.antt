-- What a call that edits promises: the answer, the rows afterwards, and that a refusal leaves the store as found. Assumes nothing.
use Rattle.std.specs.Prelude.{◌≡◌, Bool, true, false, List, ℕ}
use Rattle.std.proofs.Math.Option.{Option, none, some}
use Rattle.std.specs.Prelude.{Ok, Err}
use Rattle.answers.specs.declared.Refusal.TheVariants.{Faulty}
use Rattle.answers.specs.declared.Fault.TheVariants.{NotSound}
use Rattle.rows.specs.declared.Shape.{Shape}
use Rattle.rows.specs.declared.Shape.TheVariants.{Row, Key}
use Rattle.rows.specs.declared.Table.{Table}
use Rattle.rows.specs.Fields.{faults, span}
use Rattle.rows.specs.Rows.{key_fields, fields_of}
use Rattle.rows.specs.Tables.{Tables}
use Rattle.image_layout.specs.declared.Layout.{Layout}
use Rattle.image_layout.specs.Layout.{layout_of}
use Rattle.image.specs.Store.{is_sound, held}
use Rattle.edit_rules.specs.Types.{Edited}
use Rattle.edit_rules.specs.Edits.{Outcome, edited_number, is_context}

-- 6 first
abbrev pub answered : (Tables → Outcome) → Option Tables → Edited
answered f none = Err (Faulty NotSound)
answered f (some t) = (f t).answer

abbrev pub left : (Tables → Outcome) → Option Tables → Option Tables
left f none = none
left f (some t) = some (f t).rows

-- a call that edits by f, from the store `found` to the store `after`
pub record Edits (f : Tables → Outcome) (found after : List ℕ) (r : Edited) : Type 0 where
  pub answer_is : r ≡ answered f (held found)
  pub number_is : edited_number r ≡ edited_number (answered f (held found))
  pub rows_are : held after ≡ left f (held found)
  pub refusal_keeps : (r ≡ (Ok tt) → ⊥) → after ≡ found

-- ---- what the code asks for

-- a sound store, where its tables lie, and a table that this caller may edit
pub record Editable (strict : Bool) (t : Table) (w : List ℕ) (l : Layout) : Type 0 where
  pub sound : is_sound w ≡ true
  pub laid : l ≡ layout_of w
  pub free : strict ≡ true → is_context t ≡ false

-- whole bytes of a row or a key, and where the key ends
pub record Handed (s : Shape) (t : Table) (bytes : List ℕ) (key : ℕ) : Type 0 where
  pub whole : faults (fields_of s t) bytes ≡ none
  pub key_is : key ≡ span (key_fields t) bytes

-- how many of the bytes handed come into the table: a row put, all of them
abbrev pub length_in : Shape → ℕ → ℕ
length_in Row n = n
length_in Key n = 0
