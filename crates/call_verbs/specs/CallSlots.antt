-- What a line asks for, in the slots of its fields (`line_fields/specs/Slots.antt`). Assumes nothing.
use Rattle.std.specs.Prelude.{List, ℕ}
use Rattle.std.proofs.Math.Option.{Option, none, some}
use Rattle.edit_rules.specs.Edits.{Edit, Caller, edit_of, caller_of}
use Rattle.calls.specs.Does.{Call, ask, owner, by, walk}
use Rattle.text_rows.specs.declared.Slot.{Slot}
use Rattle.line_fields.specs.Requests.{request_in}
use Rattle.line_fields.specs.Slots.{slot_in, part_in, number_in}
use Rattle.call_verbs.specs.declared.Verb.{Verb}
use Rattle.call_verbs.specs.declared.Verb.TheVariants.{Decide, Owner, Principal, Encode, Decode, Image, MatchView, MatchAccess, Walk, Explain}
use Rattle.call_verbs.specs.declared.Verb.TheVariants.{Unknown}
use Rattle.call_verbs.specs.Calls.{Asked, calls, encodes, decodes, images, matches_view, matches_access, explains}

abbrev pub edit_in : Slot → List ℕ → Edit
edit_in s bytes = edit_of s.operation s.table (part_in s bytes)

abbrev pub owner_in : List Slot → List ℕ → Call
owner_in ss bytes = owner (edit_in (slot_in ss 0) bytes)

abbrev pub caller_in : List Slot → (bytes parts : List ℕ) → Caller
caller_in ss bytes parts = caller_of (number_in (slot_in ss 0) parts) (part_in (slot_in ss 1) bytes) (number_in (slot_in ss 2) parts)

abbrev pub principal_in : List Slot → (bytes parts : List ℕ) → Call
principal_in ss bytes parts = by (caller_in ss bytes parts) (edit_in (slot_in ss 3) bytes)

abbrev pub walk_in : List Slot → (bytes parts : List ℕ) → Call
walk_in ss bytes parts = walk (caller_in ss bytes parts) (part_in (slot_in ss 3) parts)

abbrev pub asked_in : Verb → List Slot → (bytes parts : List ℕ) → Option Asked
asked_in Decide ss bytes parts = some (calls (ask (request_in ss bytes parts)))
asked_in Owner ss bytes parts = some (calls (owner_in ss bytes))
asked_in Principal ss bytes parts = some (calls (principal_in ss bytes parts))
asked_in Encode ss bytes parts = some (encodes (slot_in ss 1).table (number_in (slot_in ss 0) parts) (part_in (slot_in ss 1) bytes))
asked_in Decode ss bytes parts = some (decodes (part_in (slot_in ss 0) parts))
asked_in Image ss bytes parts = some images
asked_in MatchView ss bytes parts = some (matches_view (part_in (slot_in ss 0) bytes) (part_in (slot_in ss 1) parts))
asked_in MatchAccess ss bytes parts =
    some (matches_access (part_in (slot_in ss 0) bytes) (part_in (slot_in ss 1) bytes) (number_in (slot_in ss 2) parts) (number_in (slot_in ss 3) parts))
asked_in Walk ss bytes parts = some (calls (walk_in ss bytes parts))
asked_in Explain ss bytes parts = some (explains (request_in ss bytes parts))
asked_in Unknown ss bytes parts = none
