-- `call_lines::play_named` meets its contract: what is read is what the line says, and each slot lies in its buffer. Assumes nothing.
use Rattle.call_words.proofs.Calls.{call-held, call-fit}
use Rattle.call_plays.proofs.Plays.{plays-as}
use Rattle.call_lines.proofs.play_named.Goals as goal

pub play_call-requires : goal.play_call-requires
play_call-requires c = record { slots = call-fit c.read_call-read.ensures.reads; room = c.requires }

pub returns : goal.returns
returns c = plays-as (call-held c.read_call-read.ensures.reads) c.play_call.ensures
