-- `instance_decode::decode` meets its contract: each return is a case of `Answers`, once the tests before it are known. The column is the part that
-- the reader has behind the base, and the index begins at the reader's place behind it. Assumes nothing.
use mathlib.Core.Path.{sym, ◌∙◌}
use lib.ListN.{length}
use borrow.Author.Tests.{ltb-false}
use Rattle.reader.proofs.Parts.{part-read, no_part}
use Rattle.instance_decode.specs.Decoding.{table_of}
use Rattle.instance_decode.proofs.Missing.{missing, present}
use Rattle.instance_decode.proofs.Answers.{found_in_lem, found_nowhere, no_table, no-column, column-unlisted, column-listed}
use Rattle.instance_decode.proofs.decode.Goals as goal

pub returns-in_err-table : goal.returns-in_err-table
returns-in_err-table c =
    let s = c.args in
    let m = missing c.table_of.result c.ok_or.ensures.value c.in_err-table.was c.from_residual.ensures in
    rw m.1 (no_table s.oid.now s.key.now (found_nowhere (table_of s.oid.now) (sym c.table_of.ensures ∙ m.0)))

pub returns-in_err-column : goal.returns-in_err-column
returns-in_err-column c =
    let s = c.args in
    let b = c.base_len in
    let t = found_in_lem (table_of s.oid.now) (sym c.table_of.ensures ∙ present c.table_of.result c.ok_or.ensures.value c.in_ok-table.was) in
    let m = missing c.read_from-read.result.part c.ok_or-2.ensures.value c.in_err-column.was c.from_residual-in_err-column.ensures in
    rw m.1 (no-column s.oid.now s.key.now t b.result b.ensures.parts
    (ltb-false b.result (length s.oid.now) (no_part s.oid.now b.result c.read_from-read.ensures m.0)))

pub returns-then-not-is_listed : goal.returns-then-not-is_listed
returns-then-not-is_listed c =
    let s = c.args in
    let b = c.base_len in
    let t = found_in_lem (table_of s.oid.now) (sym c.table_of.ensures ∙ present c.table_of.result c.ok_or.ensures.value c.in_ok-table.was) in
    let p = part-read s.oid.now b.result c.read_from-read.ensures (present c.read_from-read.result.part c.ok_or-2.ensures.value c.in_ok-column.was) in
    column-unlisted s.oid.now s.key.now t b.result b.ensures.parts p (sym c.is_listed.ensures ∙ c.if-not-is_listed.true)

pub returns : goal.returns
returns c =
    let s = c.args in
    let b = c.base_len in
    let t = found_in_lem (table_of s.oid.now) (sym c.table_of.ensures ∙ present c.table_of.result c.ok_or.ensures.value c.in_ok-table.was) in
    let p = part-read s.oid.now b.result c.read_from-read.ensures (present c.read_from-read.result.part c.ok_or-2.ensures.value c.in_ok-column.was) in
    let d = c.decode_index in
    column-listed s.oid.now s.key.now t b.result b.ensures.parts p (sym c.is_listed.ensures ∙ c.if-not-is_listed.false) _ d.result d.ensures
