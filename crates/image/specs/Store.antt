-- A store: room for the largest image, with an image at its front; what lies behind the image is unused room (document 01, "sound").
-- Assumes nothing.
use Rattle.std.specs.Prelude.{Bool, cond, ◌&&◌, List, ℕ, ◌+◌, eqb, leb, length}
use Rattle.std.proofs.Math.Option.{Option, none, some}
use Rattle.answers.specs.declared.Fault.{Fault}
use Rattle.answers.specs.declared.Fault.TheVariants.{NotSound, OutOfRange}
use Rattle.numbers.specs.Lists.{is_none}
use Rattle.rows.specs.Fields.{or_else}
use Rattle.rows.specs.Tables.{Tables}
use Rattle.image_layout.specs.Layout.{header, laid_out, count, image_length, within_limits}
use Rattle.image_judge.specs.Faults.{rows_fault, tables_in}

-- the largest image, document 01's 46,456 bytes: the header, and what the row lengths and rows of full tables take
abbrev pub room : ℕ
room = header + 46448

-- each count within its limit, the rows within the room, each held field legal, each table ascending
unfoldable pub sound_rows : List ℕ → ℕ → ℕ → ℕ → ℕ → Bool
sound_rows w c m a v =
    within_limits c m a v && (leb (image_length (c + m + a + v) w) (length w) && is_none (rows_fault w (laid_out w c m a v)))

unfoldable pub is_sound : List ℕ → Bool
is_sound w = eqb (length w) room && sound_rows w (count 0 w) (count 1 w) (count 2 w) (count 3 w)

-- what every call but image reading answers first
unfoldable pub store_fault : List ℕ → Option Fault
store_fault w = cond (is_sound w) none (some NotSound)

-- and then 7, where a call has fields to judge and one is out of its range
unfoldable pub call_fault : List ℕ → Bool → Option Fault
call_fault w legal = or_else (store_fault w) (cond legal none (some OutOfRange))

-- the tables that a sound store holds
unfoldable pub held : List ℕ → Option Tables
held w = cond (is_sound w) (some (tables_in w)) none
