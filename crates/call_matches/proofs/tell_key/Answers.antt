-- A key is put in one piece, and is short. Assumes nothing.
use Prim.Native.Nat.{◌≤◌}
use native.Mathlib.Omega.{arith}
use lib.ListN.{length}
use Rattle.rows.specs.Fields.{values}
use Rattle.rows.specs.Rows.{key_fields}
use Rattle.text_rows.specs.RowText.{key_text}
use Rattle.call_answers.specs.Answers.{answer_room}
use Rattle.call_matches.proofs.Matched.{key-short}
use Rattle.call_matches.proofs.tell_key.Goals as goal

pub put_entry-requires : goal.put_entry-requires
put_entry-requires c =
    let short : let a = c.args in length (key_text a.t (values (key_fields a.t) a.key.now)) ≤ answer_room = key-short c.args.t c.args.key.now (λ i. omega (arith, c.shared_slice_known-1.given i)) c.requires.legal in
    record { legal = c.requires.legal; room = omega (arith, short, c.requires.room) }

pub returns : goal.returns
returns c =
    let short : let a = c.args in length (key_text a.t (values (key_fields a.t) a.key.now)) ≤ answer_room = key-short c.args.t c.args.key.now (λ i. omega (arith, c.shared_slice_known-1.given i)) c.requires.legal in
    record { puts = c.put_entry.ensures; short = short }
