-- What is told of what slots hold. Assumes nothing.
use Rattle.std.specs.Prelude.{List, ℕ}
use Rattle.image.specs.Store.{held}
use Rattle.decision_match.specs.Matches.{view_choice, access_choice}
use Rattle.instance_decode.specs.Decoding.{read_instance}
use Rattle.text_rows.specs.declared.Slot.{Slot}
use Rattle.line_fields.specs.Slots.{slot_in, part_in, number_in}
use Rattle.call_answers.specs.Answers.{instance_text, decoded_text}
use Rattle.call_matches.specs.Texts.{view_match_text, access_match_text}

abbrev pub instance_in : List Slot → (bytes parts : List ℕ) → List ℕ
instance_in ss bytes parts = instance_text (slot_in ss 1).table (number_in (slot_in ss 0) parts) (part_in (slot_in ss 1) bytes)

abbrev pub decoded_in : List Slot → (parts : List ℕ) → List ℕ
decoded_in ss parts = decoded_text (read_instance (part_in (slot_in ss 0) parts))

abbrev pub view_match_in : (store : List ℕ) → List Slot → (bytes parts : List ℕ) → List ℕ
view_match_in store ss bytes parts = view_match_text (view_choice (held store) (part_in (slot_in ss 0) bytes) (part_in (slot_in ss 1) parts))

abbrev pub access_match_in : (store : List ℕ) → List Slot → (bytes parts : List ℕ) → List ℕ
access_match_in store ss bytes parts =
    access_match_text
    (access_choice (held store) (part_in (slot_in ss 0) bytes) (part_in (slot_in ss 1) bytes) (number_in (slot_in ss 2) parts) (number_in (slot_in ss 3) parts))
