-- `call_lines::play` meets its contract: the line begins with `set`, and the words behind it are played as a set, or its words in front name what it asks
-- for. Assumes nothing.
use native.Mathlib.Omega.{arith}
use Rattle.set_words.specs.Reading.{Begun}
use Rattle.set_words.proofs.Sets.{word-begun, word-other}
use Rattle.call_plays.proofs.Plays.{plays-as}
use Rattle.call_lines.proofs.Lines.{asks_set, asks-other}
use Rattle.call_lines.proofs.play.Goals as goal

pub returns-in_default : goal.returns-in_default
returns-in_default c = plays-as (asks-other _ (word-other _ c.in_default.is c.set_end.ensures)) c.play_named.ensures

pub overflow_add-end : goal.overflow_add-end
overflow_add-end c =
    let begun : Begun c.in-Some.end c.args.line.now = word-begun _ c.in-Some.is c.set_end.ensures in
    omega (arith, (begun).inside)

pub play-requires : goal.play-requires
play-requires c =
    let begun : Begun c.in-Some.end c.args.line.now = word-begun _ c.in-Some.is c.set_end.ensures in
    record { short = (begun).short; place = omega (arith, (begun).inside); room = c.requires }

pub returns : goal.returns
returns c =
    let begun : Begun c.in-Some.end c.args.line.now = word-begun _ c.in-Some.is c.set_end.ensures in
    plays-as (asks_set _ (begun).is) c.play.ensures
