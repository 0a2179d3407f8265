-- What the call wrote is the instance, which is short; its text follows the word "oid". A fault is told by its number. Assumes nothing.
use mathlib.Core.Path.{refl}
use Prim.Native.Nat.{◌-◌}
use native.Mathlib.Omega.{arith}
use lib.ListN.{take}
use Rattle.text_values.specs.Texts.{dotted_text}
use Rattle.text_values.proofs.Puts.{both, behind}
use Rattle.call_answers.specs.Answers.{oid_text}
use Rattle.call_answers.proofs.Instances.{Encoded, encoded-told, encoded-fault}
use Rattle.call_answers.proofs.tell_encoded.Goals as goal

pub slice_bounds-put_dotted-end : goal.slice_bounds-put_dotted-end
slice_bounds-put_dotted-end c =
    let encoded : let a = c.args in Encoded a.t a.column a.key.now c.encode-written.new.out c.in-Ok.n = let a = c.args in encoded-told a.t a.column a.key.now _ c.encode-written.new.out c.encode-written.ensures refl c.in-Ok.is in
    (encoded).oid_room

pub put_dotted-requires : goal.put_dotted-requires
put_dotted-requires c =
    let encoded : let a = c.args in Encoded a.t a.column a.key.now c.encode-written.new.out c.in-Ok.n = let a = c.args in encoded-told a.t a.column a.key.now _ c.encode-written.new.out c.encode-written.ensures refl c.in-Ok.is in
    behind oid_text (dotted_text (take (c.in-Ok.n - 0) c.encode-written.new.out)) (omega (arith, (encoded).short, c.requires))
    c.put_text-next.ensures

pub returns-in-Ok : goal.returns-in-Ok
returns-in-Ok c =
    let encoded : let a = c.args in Encoded a.t a.column a.key.now c.encode-written.new.out c.in-Ok.n = let a = c.args in encoded-told a.t a.column a.key.now _ c.encode-written.new.out c.encode-written.ensures refl c.in-Ok.is in
    rw (← (encoded).text_is)
    (record {
      puts = both oid_text (dotted_text (take (c.in-Ok.n - 0) c.encode-written.new.out)) (omega (arith, (encoded).short, c.requires))
          c.put_text-next.ensures c.put_dotted.ensures;
      short = (encoded).short;
    })

pub returns-in-Err : goal.returns-in-Err
returns-in-Err c =
    let a = c.args in
    rw (encoded-fault a.t a.column a.key.now _ c.encode-written.new.out c.encode-written.ensures refl c.in-Err.is)
    c.tell_fault.ensures
