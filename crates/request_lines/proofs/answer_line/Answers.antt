-- `request_lines::answer_line` meets its contract. A line that is too long or does not say each field of a request is malformed; otherwise the
-- request that its slots hold is answered. Assumes nothing.
use mathlib.Core.Path.{◌∙◌}
use Prim.Native.Nat.{◌<◌}
use native.Mathlib.Omega.{arith}
use lib.ListN.{length}
use Rattle.text_words.specs.Words.{longest, words_from}
use Rattle.line_fields.specs.Kinds.{values_said}
use Rattle.line_fields.specs.Requests.{request_kinds}
use Rattle.line_fields.specs.Slots.{ReadsFields, Whole}
use Rattle.numbers.proofs.Bools.{not-true, not-false}
use Rattle.line_fields.proofs.RequestSlots.{kinds-fit, whole-fit}
use Rattle.request_lines.proofs.Answers.{answer-long, answer-malformed, answer-said}
use Rattle.request_lines.proofs.answer_line.Goals as goal

-- what was read of the line

pub returns-then-line-gt-LONGEST_LINE : goal.returns-then-line-gt-LONGEST_LINE
returns-then-line-gt-LONGEST_LINE c = let h : longest < length c.args.line.now = omega arith in answer-long _ _ h

pub read-fields-requires : goal.read-fields-requires
read-fields-requires c = record { kinds = kinds-fit c.request_kinds-kinds.ensures (omega arith); lent = record { line_short = c.if-line-gt-LONGEST_LINE.false; at_in = omega arith; bytes_room = omega arith; parts_room = omega arith } }

pub returns-then-not-fields : goal.returns-then-not-fields
returns-then-not-fields c =
    let read : ReadsFields c.read-fields.result request_kinds c.read-fields.new.bytes c.read-fields.new.parts (values_said request_kinds (words_from 0 c.args.line.now)) = rw c.request_kinds-kinds.ensures.first_are at c.read-fields.ensures.reads in
    answer-malformed _ _ c.if-line-gt-LONGEST_LINE.false ((read).not_whole (not-true _ c.if-not-fields.true))

-- each field was read

pub answer_fields-requires : goal.answer_fields-requires
answer_fields-requires c =
    let read : ReadsFields c.read-fields.result request_kinds c.read-fields.new.bytes c.read-fields.new.parts (values_said request_kinds (words_from 0 c.args.line.now)) = rw c.request_kinds-kinds.ensures.first_are at c.read-fields.ensures.reads in
    let whole : Whole c.read-fields.result.slots request_kinds c.read-fields.new.bytes c.read-fields.new.parts (values_said request_kinds (words_from 0 c.args.line.now)) = (read).whole_is (not-false _ c.if-not-fields.false) in
    record { sound = c.requires; slots = whole-fit whole }

pub returns : goal.returns
returns c =
    let read : ReadsFields c.read-fields.result request_kinds c.read-fields.new.bytes c.read-fields.new.parts (values_said request_kinds (words_from 0 c.args.line.now)) = rw c.request_kinds-kinds.ensures.first_are at c.read-fields.ensures.reads in
    let whole : Whole c.read-fields.result.slots request_kinds c.read-fields.new.bytes c.read-fields.new.parts (values_said request_kinds (words_from 0 c.args.line.now)) = (read).whole_is (not-false _ c.if-not-fields.false) in
    c.answer_fields.ensures ∙ answer-said _ _ c.if-line-gt-LONGEST_LINE.false whole
