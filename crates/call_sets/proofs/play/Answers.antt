-- `call_sets::play` meets its contract: who calls and the edits are read one behind the other, and the call is made of what was read. Assumes nothing.
use mathlib.Core.Option.{none}
use native.Mathlib.Omega.{arith}
use Rattle.text_words.specs.Words.{words_from}
use Rattle.set_words.specs.SetWords.{caller_said}
use Rattle.set_words.specs.Reading.{Called}
use Rattle.set_words.proofs.Sets.{caller-called, caller-none, set-uncalled, set-unsaid}
use Rattle.call_plays.specs.Plays.{Plays}
use Rattle.call_plays.proofs.Plays.{plays-told, plays-as}
use Rattle.call_sets.proofs.Sets.{set-plays}
use Rattle.call_sets.proofs.play.Goals as goal

-- who calls

pub returns-in_default : goal.returns-in_default
unfolding Plays
returns-in_default c =
    plays-as (set-uncalled _ (caller-none _ _ c.in_default.is c.read_caller.ensures.calls))
    (plays-told none _ (λ only. only) c.tell_fault.ensures)

pub read_edits-read-requires : goal.read_edits-read-requires
read_edits-read-requires c =
    let called : let s = c.args in Called c.in-Some.caller.model c.in-Some.caller.name c.in-Some.caller.level c.in-Some.caller.next s.line.now c.read_caller.new.bytes (caller_said (words_from s.at s.line.now)) = caller-called _ _ c.in-Some.is c.read_caller.ensures.calls in
    record {
      line_short = c.requires.short;
      at_in = (called).next_in;
      bytes_room = omega (arith, c.read_caller.auto.bytes);
      parts_room = omega (arith, c.read_caller.auto.parts);
    }

-- the edits

-- from the name to what was read

pub octets_in-name-requires : goal.octets_in-name-requires
octets_in-name-requires c =
    let called : let s = c.args in Called c.in-Some.caller.model c.in-Some.caller.name c.in-Some.caller.level c.in-Some.caller.next s.line.now c.read_caller.new.bytes (caller_said (words_from s.at s.line.now)) = caller-called _ _ c.in-Some.is c.read_caller.ensures.calls in
    let w = (called).within in
    record {
      forward = w.forward;
      inside =
          omega (arith, w.inside, (called).next_in, c.requires.short, c.read_edits-read.auto.bytes, c.read_caller.auto.bytes);
    }

pub make-requires : goal.make-requires
make-requires c = c.requires.room

pub returns-then-read : goal.returns-then-read
returns-then-read c =
    let called : let s = c.args in Called c.in-Some.caller.model c.in-Some.caller.name c.in-Some.caller.level c.in-Some.caller.next s.line.now c.read_caller.new.bytes (caller_said (words_from s.at s.line.now)) = caller-called _ _ c.in-Some.is c.read_caller.ensures.calls in
    set-plays _ called (c.read_edits-read.ensures.reads.whole_is c.if-read.true) c.read_edits-read.ensures.keeps
    c.octets_in-name.ensures c.make.ensures

pub returns : goal.returns
unfolding Plays
returns c =
    let called : let s = c.args in Called c.in-Some.caller.model c.in-Some.caller.name c.in-Some.caller.level c.in-Some.caller.next s.line.now c.read_caller.new.bytes (caller_said (words_from s.at s.line.now)) = caller-called _ _ c.in-Some.is c.read_caller.ensures.calls in
    plays-as (set-unsaid _ (called).is (c.read_edits-read.ensures.reads.not_whole c.if-read.false))
    (plays-told none _ (λ only. only) c.tell_fault-2.ensures)
