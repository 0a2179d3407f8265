-- `call_verbs::kinds_of` meets its contract: in each arm the kinds of the word are the first of the array. Assumes nothing.
use mathlib.Core.Path.{refl}
use Rattle.call_verbs.proofs.kinds_of.Goals as goal

pub returns-in-Decide : goal.returns-in-Decide
returns-in-Decide c = rw c.in-Decide.is c.request_kinds.ensures

pub returns-in-Owner : goal.returns-in-Owner
returns-in-Owner c = rw c.in-Owner.is (record { first_are = refl; room = refl })

pub returns-in-Principal : goal.returns-in-Principal
returns-in-Principal c = rw c.in-Principal.is (record { first_are = refl; room = refl })

pub returns-in-Encode : goal.returns-in-Encode
returns-in-Encode c = rw c.in-Encode.is (record { first_are = refl; room = refl })

pub returns-in-Decode : goal.returns-in-Decode
returns-in-Decode c = rw c.in-Decode.is (record { first_are = refl; room = refl })

pub returns-in-Image : goal.returns-in-Image
returns-in-Image c = rw c.in-Image.is (record { first_are = refl; room = refl })

pub returns-in-MatchView : goal.returns-in-MatchView
returns-in-MatchView c = rw c.in-MatchView.is (record { first_are = refl; room = refl })

pub returns-in-MatchAccess : goal.returns-in-MatchAccess
returns-in-MatchAccess c = rw c.in-MatchAccess.is (record { first_are = refl; room = refl })

pub returns-in-Walk : goal.returns-in-Walk
returns-in-Walk c = rw c.in-Walk.is (record { first_are = refl; room = refl })

pub returns-in-Explain : goal.returns-in-Explain
returns-in-Explain c = rw c.in-Explain.is c.request_kinds-in-Explain.ensures

pub returns-in-Unknown : goal.returns-in-Unknown
returns-in-Unknown c = rw c.in-Unknown.is (record { first_are = refl; room = refl })
