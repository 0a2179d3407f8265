-- `call_words::read_call` meets its contract: the words in front name what the line asks for, and the fields behind them are read by its kinds.
-- Assumes nothing.
use mathlib.Core.Path.{◌≡◌, ap, ◌∙◌}
use Prim.Native.Nat.{◌<◌}
use native.Mathlib.Omega.{arith}
use lib.ListN.{length, take}
use Rattle.numbers.proofs.Bools.{not-true, not-false}
use Rattle.text_words.specs.Words.{longest, words_from}
use Rattle.line_fields.specs.Kinds.{values_said}
use Rattle.line_fields.specs.Slots.{ReadsFields}
use Rattle.line_fields.specs.Buffers.{buffers}
use Rattle.call_verbs.specs.Calls.{kinds_of}
use Rattle.call_verbs.proofs.Calls.{kinds-few, long-line}
use Rattle.call_words.specs.Reading.{line_into}
use Rattle.call_words.proofs.Calls.{long-into, reads_nothing, line-into, line-nothing, line_reads}
use Rattle.call_words.proofs.read_call.Goals as goal

pub returns-then-line-gt-LONGEST_LINE : goal.returns-then-line-gt-LONGEST_LINE
returns-then-line-gt-LONGEST_LINE c =
    let s = c.args in
    let h : longest < length s.line.now = omega (arith, c.if-line-gt-LONGEST_LINE.true) in
    record { reads = reads_nothing _ _ (long-line _ h); lays = long-into s.line.now (buffers s.bytes.now s.parts.now) h }

pub read-fields-requires : goal.read-fields-requires
read-fields-requires c =
    record {
      kinds = record {
        few = omega (arith, c.field_count.ensures, kinds-few c.phrase_of-named.result.verb);
        inside = omega (arith, c.field_count.ensures, kinds-few c.phrase_of-named.result.verb, c.kinds_of-kinds.ensures.room);
      };
      lent = record {
        line_short = c.if-line-gt-LONGEST_LINE.false;
        at_in = c.phrase_of-named.ensures.next_in;
        bytes_room = c.requires.bytes_room;
        parts_room = c.requires.parts_room;
      };
    }

pub returns-then-not-fields : goal.returns-then-not-fields
returns-then-not-fields c =
    let kinds : take c.field_count.result c.kinds_of-kinds.result ≡ kinds_of c.phrase_of-named.result.verb = ap (λ k. take k c.kinds_of-kinds.result) c.field_count.ensures ∙ c.kinds_of-kinds.ensures.first_are in
    let read : let p = c.phrase_of-named.result in ReadsFields c.read-fields.result (kinds_of p.verb) c.read-fields.new.bytes c.read-fields.new.parts (values_said (kinds_of p.verb) (words_from p.next c.args.line.now)) = rw kinds at c.read-fields.ensures.reads in
    let left : let s = c.args in buffers c.read-fields.new.bytes c.read-fields.new.parts ≡ line_into s.line.now (buffers s.bytes.now s.parts.now) = let s = c.args in (rw kinds at c.read-fields.ensures.lays) ∙ line-into s.line.now c.if-line-gt-LONGEST_LINE.false c.phrase_of-named.ensures (buffers s.bytes.now s.parts.now) in
    let e = line-nothing _ c.if-line-gt-LONGEST_LINE.false c.phrase_of-named.ensures ((read).not_whole (not-true _ c.if-not-fields.true)) in
    record { reads = reads_nothing _ _ e; lays = left }

pub returns : goal.returns
returns c =
    let kinds : take c.field_count.result c.kinds_of-kinds.result ≡ kinds_of c.phrase_of-named.result.verb = ap (λ k. take k c.kinds_of-kinds.result) c.field_count.ensures ∙ c.kinds_of-kinds.ensures.first_are in
    let read : let p = c.phrase_of-named.result in ReadsFields c.read-fields.result (kinds_of p.verb) c.read-fields.new.bytes c.read-fields.new.parts (values_said (kinds_of p.verb) (words_from p.next c.args.line.now)) = rw kinds at c.read-fields.ensures.reads in
    let left : let s = c.args in buffers c.read-fields.new.bytes c.read-fields.new.parts ≡ line_into s.line.now (buffers s.bytes.now s.parts.now) = let s = c.args in (rw kinds at c.read-fields.ensures.lays) ∙ line-into s.line.now c.if-line-gt-LONGEST_LINE.false c.phrase_of-named.ensures (buffers s.bytes.now s.parts.now) in
    record { reads = line_reads _ c.if-line-gt-LONGEST_LINE.false c.phrase_of-named.ensures ((read).whole_is (not-false _ c.if-not-fields.false)); lays = left }
