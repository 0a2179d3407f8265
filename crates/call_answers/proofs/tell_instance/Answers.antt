-- The word is put, and the column and the key behind it: both fit, since both are short. Assumes nothing.
use mathlib.Core.List.{List, ◌++◌}
use Prim.Native.Nat.{ℕ, ◌+◌, ◌≤◌}
use native.Mathlib.Omega.{arith}
use lib.ListN.{length, length-append}
use Rattle.text_values.proofs.Puts.{both, behind}
use Rattle.call_answers.specs.Answers.{instance_word, column_key_of, answer_room}
use Rattle.call_answers.proofs.Instances.{column-key-short}
use Rattle.call_answers.proofs.tell_instance.Goals as goal

pub put_text-next-requires : goal.put_text-next-requires
put_text-next-requires c = omega (arith, c.requires.room)

pub put_column_key-requires : goal.put_column_key-requires
put_column_key-requires c =
    let text : List ℕ = let a = c.args in column_key_of a.t a.column a.key.now in
    let short : length (instance_word ++ text) ≤ answer_room = let a = c.args in omega (arith, length-append instance_word text, column-key-short a.t a.column a.key.now (λ i. omega (arith, c.type_inv.key i)) c.requires.legal) in
    let fits : c.args.at + length (instance_word ++ text) ≤ length c.args.out.now = omega (arith, short, c.requires.room) in
    record { legal = c.requires.legal; room = behind instance_word text fits c.put_text-next.ensures }

pub returns : goal.returns
returns c =
    let text : List ℕ = let a = c.args in column_key_of a.t a.column a.key.now in
    let short : length (instance_word ++ text) ≤ answer_room = let a = c.args in omega (arith, length-append instance_word text, column-key-short a.t a.column a.key.now (λ i. omega (arith, c.type_inv.key i)) c.requires.legal) in
    let fits : c.args.at + length (instance_word ++ text) ≤ length c.args.out.now = omega (arith, short, c.requires.room) in
    record { puts = both instance_word text fits c.put_text-next.ensures c.put_column_key.ensures; short = short }
