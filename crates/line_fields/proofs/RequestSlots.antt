-- The request that six slots hold. Assumes nothing.
use mathlib.Core.Path.{◌≡◌, ap, ◌∙◌}
use mathlib.Core.List.{List}
use mathlib.Core.Option.{Option, none, some, map}
use Prim.Native.Nat.{ℕ, ◌≤◌, ◌<◌}
use native.Mathlib.Omega.{arith}
use lib.ListN.{length, get_or}
use Rattle.decision_steps.specs.Request.{asked}
use Rattle.line_fields.specs.declared.Kind.{Kind}
use Rattle.text_rows.specs.declared.Slot.{Slot}
use Rattle.line_fields.specs.Kinds.{Value, value_at, values_said}
use Rattle.line_fields.specs.Requests.{request_kinds, request_of, request_in, request}
use Rattle.line_fields.specs.Slots.{side, in_parts, kind_in, slot_in, Holds, Kinds, Lists, Whole, Fit}

-- kinds that are listed are so many of an array
pub kinds-fit : {kinds all : List Kind} → Lists kinds all → length kinds ≤ 6 → Kinds (length kinds) all
kinds-fit l h = record { few = h; inside = omega (arith, l.room) }

-- slots that hold values lie in their buffers
pub whole-fit : {slots : List Slot} {kinds : List Kind} {bytes parts : List ℕ} {said : Option (List Value)} → Whole slots kinds bytes parts said
    → Fit slots kinds bytes parts
whole-fit w = record { within = λ i h. (w.holds i h).within }

pub same-request : {m m' : ℕ} {n n' : List ℕ} {l l' k k' : ℕ} {c c' v v' : List ℕ} → m ≡ m' → n ≡ n' → l ≡ l' → k ≡ k' → c ≡ c' → v ≡ v'
    → asked m n l k c v ≡ asked m' n' l' k' c' v'
same-request a b d e f g = rw (a, b, d, e, f, g)

number-value : {v v' : Value} → v ≡ v' → get_or v.parts 0 0 ≡ get_or v'.parts 0 0
number-value e = ap (λ v. get_or v.parts 0 0) e

pub request-held : (slots : List Slot) (bytes parts : List ℕ) (values : List Value)
    → ((i : ℕ) → i < length request_kinds → Holds (slot_in slots i) (value_at i values) (side (in_parts (kind_in request_kinds i)) bytes parts))
    → request_of values ≡ request_in slots bytes parts
request-held slots bytes parts values h =
    same-request (number-value (h 0 (omega arith)).is) (ap (λ v. v.parts) (h 3 (omega arith)).is) (number-value (h 1 (omega arith)).is)
    (number-value (h 2 (omega arith)).is)
    (ap (λ v. v.parts) (h 4 (omega arith)).is)
    (ap (λ v. v.parts) (h 5 (omega arith)).is)

-- the words say the request that the slots hold
pub request-said : (ws : List (List ℕ)) {slots : List Slot} {bytes parts : List ℕ} → Whole slots request_kinds bytes parts (values_said request_kinds ws)
    → request ws ≡ some (request_in slots bytes parts)
unfolding request
request-said ws {slots} {bytes} {parts} w = ap (map request_of) w.are ∙ ap some (request-held slots bytes parts w.values w.holds)

pub request-none : (ws : List (List ℕ)) → values_said request_kinds ws ≡ none → request ws ≡ none
unfolding request
request-none ws e = ap (map request_of) e
