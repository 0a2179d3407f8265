-- `instance_encode::encode` meets its contract: each return is a case of `Answers`, once the tests before it are known. The key has no fault,
-- so its index is its bytes in three runs, and the length that is asked for is the instance's (`Sized`). Assumes nothing.
use mathlib.Core.Path.{sym, ◌∙◌}
use native.Mathlib.Nat.{zero-add}
use native.Mathlib.Omega.{arith}
use lib.ListN.{length}
use Rattle.rows.specs.Rows.{index_of}
use Rattle.instance_encode.specs.Instances.{instance}
use Rattle.instance_encode.proofs.Sized.{key-sound, key-faulty, sized}
use Rattle.instance_encode.proofs.Answers.{encode-unlisted, encode-faulty, encode-short, encode-done}
use Rattle.instance_encode.proofs.encode.Goals.{then-not-is_listed-via-then-not-is_listed, then-not-is_listed-via-else-not-is_listed+then-is_err}
use Rattle.instance_encode.proofs.encode.Goals as goal

pub returns-then-not-is_listed : goal.returns-then-not-is_listed
returns-then-not-is_listed c =
    let s = c.args in
    elim c.then-not-is_listed.branch [
      | then-not-is_listed-via-then-not-is_listed w ↦
          encode-unlisted s.t s.column s.key.now s.out.now (sym c.is_listed.ensures ∙ w.if-not-is_listed.true)
      | then-not-is_listed-via-else-not-is_listed+then-is_err w ↦
          encode-faulty s.t s.column s.key.now s.out.now (key-faulty s.t s.key.now w.judge_key.ensures w.is_err.ensures.value w.if-is_err.true).1
    ]

pub overflow_sub-n : goal.overflow_sub-n
overflow_sub-n c =
    let s = c.args in
    let q = c.quads_of-q in
    let f = key-sound s.t s.key.now c.judge_key.ensures c.is_err.ensures.value c.if-is_err.false in
    omega (arith, (sized s.t s.column s.key.now f q.ensures.place q.ensures.number c.base_len.ensures.parts).room)

pub returns-then-out-n : goal.returns-then-out-n
returns-then-out-n c =
    let s = c.args in
    let q = c.quads_of-q in
    let f = key-sound s.t s.key.now c.judge_key.ensures c.is_err.ensures.value c.if-is_err.false in
    let z = sized s.t s.column s.key.now f q.ensures.place q.ensures.number c.base_len.ensures.parts in
    encode-short s.t s.column s.key.now s.out.now (sym c.is_listed.ensures ∙ c.if-not-is_listed.false) f (omega (arith, z.length_is, c.if-out-n.true))

pub put_instance-requires : goal.put_instance-requires
put_instance-requires c =
    let s = c.args in
    let q = c.quads_of-q in
    let f = key-sound s.t s.key.now c.judge_key.ensures c.is_err.ensures.value c.if-is_err.false in
    let z = sized s.t s.column s.key.now f q.ensures.place q.ensures.number c.base_len.ensures.parts in
    record { inside = z.room; room = omega (arith, z.room, c.base_len.ensures.parts, c.if-out-n.false) }

pub returns : goal.returns
returns c =
    let s = c.args in
    let q = c.quads_of-q in
    let f = key-sound s.t s.key.now c.judge_key.ensures c.is_err.ensures.value c.if-is_err.false in
    let z = sized s.t s.column s.key.now f q.ensures.place q.ensures.number c.base_len.ensures.parts in
    let i = instance s.t s.column (index_of s.t s.key.now) in
    rw (c.put_instance.ensures, ← z.index_is, z.length_is, zero-add (length i))
    (encode-done s.t s.column s.key.now s.out.now (sym c.is_listed.ensures ∙ c.if-not-is_listed.false) f
    (omega (arith, z.length_is, c.if-out-n.false)))
