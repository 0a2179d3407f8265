-- `call_sets::make` meets its contract: the call does what it promises, and its number and position are told. Assumes nothing.
use mathlib.Core.Path.{ap}
use Rattle.calls.specs.Does.{set_edited, acts_all}
use Rattle.call_plays.specs.Plays.{position_text, Plays}
use Rattle.call_sets.proofs.make.Goals as goal

pub returns : goal.returns
unfolding Plays
returns c =
    let r = c.principal_set-made.result in
    record {
      text = position_text c.edited_number.result r.position;
      plays = record {
        reply = set_edited r;
        does = acts_all c.principal_set-made.ensures;
        text_is = ap (λ u. position_text u r.position) c.edited_number.ensures;
      };
      told = c.tell_position.ensures;
    }
