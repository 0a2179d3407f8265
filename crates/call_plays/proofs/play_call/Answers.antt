-- `call_plays::play_call` meets its contract: what the word asks for is known in each arm, and what its function answers is told. Assumes nothing.
use native.Mathlib.Omega.{arith}
use Rattle.call_answers.proofs.Room.{decimal-short}
use Rattle.call_plays.specs.Plays.{Plays}
use Rattle.call_plays.proofs.Plays.{plays-told, plays-call, plays-walk}
use Rattle.call_plays.proofs.play_call.Goals as goal

pub decide-number-requires : goal.decide-number-requires
decide-number-requires c = rw c.in-Decide.is at c.requires.slots

pub put_decimal-requires : goal.put_decimal-requires
put_decimal-requires c = omega (arith, decimal-short c.decide-number.result, c.requires.room)

pub edit_as_owner-number-requires : goal.edit_as_owner-number-requires
edit_as_owner-number-requires c = rw c.in-Owner.is at c.requires.slots

pub put_decimal-requires-in-Owner : goal.put_decimal-requires-in-Owner
put_decimal-requires-in-Owner c = omega (arith, decimal-short c.edit_as_owner-number.result, c.requires.room)

pub edit_as_principal-number-requires : goal.edit_as_principal-number-requires
edit_as_principal-number-requires c = rw c.in-Principal.is at c.requires.slots

pub put_decimal-requires-in-Principal : goal.put_decimal-requires-in-Principal
put_decimal-requires-in-Principal c = omega (arith, decimal-short c.edit_as_principal-number.result, c.requires.room)

pub encode-requires : goal.encode-requires
encode-requires c = record { slots = rw c.in-Encode.is at c.requires.slots; room = c.requires.room }

pub decode-requires : goal.decode-requires
decode-requires c = record { slots = (rw c.in-Decode.is at c.requires.slots).within 0 (omega arith); room = c.requires.room }

pub match_view-requires : goal.match_view-requires
match_view-requires c =
    record { slots = rw c.in-MatchView.is at c.requires.slots; room = c.requires.room }

pub match_access-requires : goal.match_access-requires
match_access-requires c =
    record { slots = rw c.in-MatchAccess.is at c.requires.slots; room = c.requires.room }

pub walk-requires : goal.walk-requires
walk-requires c =
    record { slots = rw c.in-Walk.is at c.requires.slots; room = c.requires.room }

pub explain-requires : goal.explain-requires
explain-requires c =
    record { slots = rw c.in-Explain.is at c.requires.slots; room = c.requires.room }

pub returns-in-Decide : goal.returns-in-Decide
returns-in-Decide c = rw c.in-Decide.is (plays-call tt c.decide-number.ensures c.put_decimal.ensures)

pub returns-in-Owner : goal.returns-in-Owner
returns-in-Owner c = rw c.in-Owner.is (plays-call tt c.edit_as_owner-number.ensures c.put_decimal-in-Owner.ensures)

pub returns-in-Principal : goal.returns-in-Principal
returns-in-Principal c = rw c.in-Principal.is (plays-call tt c.edit_as_principal-number.ensures c.put_decimal-in-Principal.ensures)

pub returns-in-Encode : goal.returns-in-Encode
unfolding Plays
returns-in-Encode c = rw c.in-Encode.is (plays-told _ _ (λ only. only) c.encode.ensures)

pub returns-in-Decode : goal.returns-in-Decode
unfolding Plays
returns-in-Decode c = rw c.in-Decode.is (plays-told _ _ (λ only. only) c.decode.ensures)

pub returns-in-Image : goal.returns-in-Image
unfolding Plays
returns-in-Image c = rw c.in-Image.is (plays-told _ _ (λ only. only) c.tell_image.ensures)

pub returns-in-MatchView : goal.returns-in-MatchView
unfolding Plays
returns-in-MatchView c = rw c.in-MatchView.is (plays-told _ _ (λ only. only) c.match_view.ensures)

pub returns-in-MatchAccess : goal.returns-in-MatchAccess
unfolding Plays
returns-in-MatchAccess c = rw c.in-MatchAccess.is (plays-told _ _ (λ only. only) c.match_access.ensures)

pub returns-in-Walk : goal.returns-in-Walk
returns-in-Walk c = rw c.in-Walk.is (plays-walk c.walk.ensures)

pub returns-in-Explain : goal.returns-in-Explain
unfolding Plays
returns-in-Explain c = rw c.in-Explain.is (plays-told _ _ (λ only. only) c.explain.ensures)

pub returns-in-Unknown : goal.returns-in-Unknown
unfolding Plays
returns-in-Unknown c = rw c.in-Unknown.is (plays-told _ _ (λ only. only) c.tell_fault.ensures)
