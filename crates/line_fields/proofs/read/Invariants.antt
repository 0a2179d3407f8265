-- `line_fields::read` meets its contract. The loop's invariant: the slots of the kinds passed hold their values, and what the words left say of the
-- kinds left makes the rest (`OnWay`); reading the kinds left leaves in the buffers what reading all leaves.
-- Assumes nothing.
use mathlib.Core.Path.{◌≡◌}
use lib.ListN.{length, take, drop}
use Rattle.text_words.specs.Words.{words_from}
use Rattle.line_fields.specs.Kinds.{values_said}
use Rattle.line_fields.specs.Buffers.{buffers, fields_into}
use Rattle.line_fields.proofs.LineSlots.{OnWay}
use Rattle.line_fields.proofs.read.Given as goal

abbrev pub invariant-loop-i : goal.invariant-loop-i
invariant-loop-i l = (length l.slots ≡ 6) × (length l.bytes ≡ length l.initial.bytes) × (length l.parts ≡ length l.initial.parts)
    × OnWay (values_said (take l.n l.kinds) (words_from l.at l.line)) l.line l.kinds l.slots l.bytes l.parts l.i l.next (drop l.i (take l.n l.kinds))
    × (fields_into (take l.n l.kinds) l.line (words_from l.at l.line) (buffers l.initial.bytes l.initial.parts)
    ≡ fields_into (drop l.i (take l.n l.kinds)) l.line (words_from l.next l.line) (buffers l.bytes l.parts))
