-- A request as a line of words (document 01, the program `tryreq`). Assumes nothing.
use Rattle.std.specs.Prelude.{List, [], ◌∷◌, ℕ}
use Rattle.std.proofs.Math.Option.{Option, map}
use Rattle.decision_steps.specs.Request.{Request, asked}
use Rattle.line_fields.specs.declared.Kind.{Kind}
use Rattle.line_fields.specs.declared.Kind.TheVariants.{Number, Name, Identifier}
use Rattle.text_rows.specs.declared.Slot.{Slot}
use Rattle.line_fields.specs.Slots.{slot_in, number_in, part_in}
use Rattle.line_fields.specs.Kinds.{Value, parts_at, number_at, values_said}

-- six words: model, level, kind, security name, context name, variable
abbrev pub request_kinds : List Kind
request_kinds = Number ∷ Number ∷ Number ∷ Name ∷ Name ∷ Identifier ∷ []

abbrev pub request_of : List Value → Request
request_of vs = asked (number_at 0 vs) (parts_at 3 vs) (number_at 1 vs) (number_at 2 vs) (parts_at 4 vs) (parts_at 5 vs)

-- and of what six slots hold
abbrev pub request_in : List Slot → (bytes parts : List ℕ) → Request
request_in ss bytes parts =
    asked (number_in (slot_in ss 0) parts) (part_in (slot_in ss 3) bytes) (number_in (slot_in ss 1) parts) (number_in (slot_in ss 2) parts)
    (part_in (slot_in ss 4) bytes)
    (part_in (slot_in ss 5) parts)

unfoldable pub request : List (List ℕ) → Option Request
request ws = map request_of (values_said request_kinds ws)
