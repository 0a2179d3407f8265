-- A field that was read: its slot holds what the words say, in front of what the words behind it make (`Reads`). Assumes nothing.
use mathlib.Core.Path.{◌≡◌, sym, ap, ◌∙◌}
use mathlib.Core.Bool.{false}
use mathlib.Core.List.{List}
use mathlib.Core.Option.{Option, none, some}
use Prim.Native.Nat.{ℕ, ◌*◌, ◌≤◌}
use native.Mathlib.Omega.{arith}
use lib.ListN.{length, take}
use Rattle.std.specs.Prelude.{Some, None}
use Rattle.text_words.specs.Words.{words_from}
use Rattle.text_words.proofs.Kept.{laid_kept}
use Rattle.text_rows.specs.declared.Slot.{Slot}
use Rattle.text_rows.specs.Types.{Found}
use Rattle.line_fields.specs.declared.Kind.{Kind}
use Rattle.line_fields.specs.declared.Kind.TheVariants.{Edit}
use Rattle.line_fields.specs.Kinds.{Taken, taken, kind_said}
use Rattle.line_fields.specs.Slots.{side, in_parts, value_in, Within, Lent, Lies, Finds}
use Rattle.line_fields.specs.Buffers.{buffers, kind_front, laid_in, field_into}
use Rattle.line_fields.proofs.Buffers.{place-from}
use Rattle.line_fields.proofs.LineSlots.{adds, adds-value}

-- its value, and the buffers afterwards
pub record Reads (k : Kind) (s : Slot) (next at : ℕ) (line bytes parts : List ℕ) : Type 0 where
  pub said : kind_said k (words_from at line) ≡ some (taken (value_in s (side (in_parts k) bytes parts)) (words_from next line))
  pub forward : at ≤ next
  pub within : Within s (4 * next)
  pub lent : Lent line next bytes parts

found-lies : {r : Found} (from at : ℕ) (line : List ℕ) {said : Option Taken} {s : Slot} {next : ℕ} → r ≡ Some (s, next) → Finds r from at line said
    → Lies s next from at line said
found-lies from at line e f = rw e at f

pub field-none : {r : Found} (from at : ℕ) (line : List ℕ) {said : Option Taken} → r ≡ None → Finds r from at line said → said ≡ none
field-none from at line e f = rw e at f

module _ (k : Kind) {line : List ℕ} {at : ℕ} {bytes parts bytes' parts' : List ℕ} (l : Lent line at bytes parts)
    (lays : buffers bytes' parts' ≡ laid_in (in_parts k) (4 * at) (kind_front k (words_from at line)) (buffers bytes parts)) where
  -- what it leaves
  pub field-into : field_into k line (words_from at line) (buffers bytes parts) ≡ buffers bytes' parts'
  field-into = ap (λ n. laid_in (in_parts k) (4 * n) (kind_front k (words_from at line)) (buffers bytes parts)) (place-from at line l.at_in) ∙ sym lays

  pub field-reads : {r : Found} {s : Slot} {next : ℕ} → r ≡ Some (s, next) → Finds r (4 * at) at line (kind_said k (words_from at line))
      → length bytes' ≡ length bytes → length parts' ≡ length parts → Reads k s next at line bytes' parts'
  field-reads e f eb ep =
      let y = found-lies (4 * at) at line e f in record {
        said = adds-value (in_parts k) l (adds k bytes parts y lays);
        forward = omega (arith, y.ends, y.short);
        within = record { forward = omega (arith, y.begins, y.ends); inside = omega (arith, y.begins, y.short) };
        lent =
            record {
              line_short = l.line_short;
              at_in = y.next_in;
              bytes_room = rw eb l.bytes_room;
              parts_room = rw ep l.parts_room;
            };
      }

-- what lies in front of an edit stays, be it read or not
pub edit-kept : {line : List ℕ} {at : ℕ} {bytes parts bytes' parts' : List ℕ} → Lent line at bytes parts
    → buffers bytes' parts' ≡ laid_in false (4 * at) (kind_front Edit (words_from at line)) (buffers bytes parts)
    → take (4 * at) bytes' ≡ take (4 * at) bytes
edit-kept {line} {at} {bytes} l e =
    ap (λ u. take (4 * at) u.bytes) e
    ∙ laid_kept (4 * at) (kind_front Edit (words_from at line)) bytes (omega (arith, l.line_short, l.at_in, l.bytes_room))
