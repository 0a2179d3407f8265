-- `set_words::read_edits` meets its contract. The loop's invariant: an edit is due, those passed lie where the set says, and reading those left leaves in
-- the buffers what reading all leaves (`OnWay`); what lay in front of the first stays. The measure is how much of the line is left. Assumes nothing.
use mathlib.Core.Path.{◌≡◌}
use Prim.Native.Nat.{suc, ◌-◌, ◌*◌, ◌≤◌}
use lib.ListN.{length, take}
use Rattle.text_words.specs.Words.{words_from}
use Rattle.line_fields.specs.Buffers.{buffers}
use Rattle.set_words.specs.SetWords.{edits_said}
use Rattle.set_words.specs.Buffers.{edits_into}
use Rattle.set_words.proofs.EditsOnWay.{OnWay}
use Rattle.set_words.proofs.read_edits.Given as goal

abbrev pub invariant-loop-e : goal.invariant-loop-e
invariant-loop-e l = OnWay (edits_said (words_from l.at l.line)) (edits_into l.line (words_from l.at l.line) (buffers l.initial.bytes l.initial.parts)) l.line l.set l.bytes l.parts l.next
    × (length l.bytes ≡ length l.initial.bytes) × (length l.parts ≡ length l.initial.parts) × (l.at ≤ l.next) × (take (4 * l.at) l.bytes ≡ take (4 * l.at) l.initial.bytes)

abbrev pub decreases-loop-e : goal.decreases-loop-e
decreases-loop-e l = suc (length l.line) - l.next
