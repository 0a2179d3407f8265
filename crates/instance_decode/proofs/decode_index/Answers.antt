-- `instance_decode::decode_index` meets its contract: each return is a case of `Answers`. The key was made within a buffer no longer than its own
-- room, so it fits. Assumes nothing.
use mathlib.Core.Path.{sym}
use native.Mathlib.Omega.{arith}
use lib.Seq.{length-take-le}
use Rattle.rows.specs.Rows.{key_fields}
use Rattle.rows.specs.Fields.{row_bytes}
use Rattle.instance_fields.specs.Indices.{parse_fields}
use Rattle.instance_fields.proofs.Way.{untaken}
use Rattle.instance_decode.proofs.Missing.{missing, present}
use Rattle.instance_decode.proofs.Answers.{taken, index-unread, index-over, index-whole, made-room}
use Rattle.instance_decode.proofs.decode_index.Goals as goal

pub returns-in_err-at : goal.returns-in_err-at
returns-in_err-at c =
    let s = c.args in
    let f = c.read_fields in
    let m = missing f.result c.ok_or.ensures.value c.in_err-at.was c.from_residual.ensures in
    rw m.1 (index-unread s.table s.column s.index.now s.key.now
    (untaken (row_bytes (key_fields s.table)) s.index.now 0 (parse_fields (key_fields s.table) s.index.now) f.ensures.reads m.0))

pub returns-then-left_at-gt0 : goal.returns-then-left_at-gt0
returns-then-left_at-gt0 c =
    let s = c.args in
    let f = c.read_fields in
    let k = taken s.table s.index.now s.made.now f.new.key f.ensures.reads f.ensures.lays (present f.result c.ok_or.ensures.value c.in_ok-at.was) in
    index-over s.table s.column s.index.now s.key.now k (omega (arith, c.if-left_at-gt0.true, c.left_at.ensures))

pub slice_bounds-copy_in-end : goal.slice_bounds-copy_in-end
slice_bounds-copy_in-end c =
    let s = c.args in
    let f = c.read_fields in
    let k = taken s.table s.index.now s.made.now f.new.key f.ensures.reads f.ensures.lays (present f.result c.ok_or.ensures.value c.in_ok-at.was) in
    made-room s.table s.column s.index.now s.key.now k

pub slice_bounds-copy_in-end-2 : goal.slice_bounds-copy_in-end-2
slice_bounds-copy_in-end-2 c =
    let s = c.args in
    let f = c.read_fields in
    let k = taken s.table s.index.now s.made.now f.new.key f.ensures.reads f.ensures.lays (present f.result c.ok_or.ensures.value c.in_ok-at.was) in
    sym (length-take-le c.in_ok-at.n f.new.key (made-room s.table s.column s.index.now s.key.now k))

pub returns : goal.returns
returns c =
    let s = c.args in
    let f = c.read_fields in
    let k = taken s.table s.index.now s.made.now f.new.key f.ensures.reads f.ensures.lays (present f.result c.ok_or.ensures.value c.in_ok-at.was) in
    index-whole s.table s.column s.index.now s.key.now k (omega (arith, c.if-left_at-gt0.false, c.left_at.ensures)) _ c.copy_in.ensures
