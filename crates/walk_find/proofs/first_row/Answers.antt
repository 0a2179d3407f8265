use mathlib.Core.Path.{sym, ◌∙◌}
use Prim.Native.Nat.{◌+◌, ◌≤◌}
use native.Mathlib.Omega.{arith}
use lib.ListN.{length}
use Rattle.decision_find.proofs.Scans.{scan-start, scan-length, scan-row, scan-whole, first-none, first_found, first-passed}
use Rattle.decision_parts.specs.Parts.{rows_of}
use Rattle.walk_rows.specs.Reading.{readable_row}
use Rattle.walk_find.proofs.first_row.Goals as goal

pub loop-i-init : goal.loop-i-init
loop-i-init c = scan-start _ c.requires.rows

pub pair_at-requires : goal.pair_at-requires
pair_at-requires c = scan-length c.loop-i.invariant c.loop-i-test.true

pub overflow_add-e : goal.overflow_add-e
overflow_add-e c =
    let row_in : c.loop-i.o + c.pair_at.result ≤ length c.args.w.now = scan-row c.loop-i.invariant c.loop-i-test.true _ c.pair_at.ensures.number in
    omega (arith, row_in)

pub slice_bounds-is_row_readable-end : goal.slice_bounds-is_row_readable-end
slice_bounds-is_row_readable-end c = scan-row c.loop-i.invariant c.loop-i-test.true _ c.pair_at.ensures.number

pub is_row_readable-requires : goal.is_row_readable-requires
is_row_readable-requires c = record { view = c.requires.view; listed = c.requires.listed; whole = scan-whole c.loop-i.invariant c.loop-i-test.true _ c.pair_at.ensures.number }

pub returns-then-is_row_readable : goal.returns-then-is_row_readable
returns-then-is_row_readable c =
    first_found (readable_row c.args.t c.args.column (rows_of c.args.w.now c.args.v)) c.loop-i.invariant c.loop-i-test.true _ c.pair_at.ensures.number
    (sym c.is_row_readable.ensures ∙ c.if-is_row_readable.true)

pub loop-i-preserved : goal.loop-i-preserved
loop-i-preserved c =
    first-passed (readable_row c.args.t c.args.column (rows_of c.args.w.now c.args.v)) c.loop-i.invariant c.loop-i-test.true _ c.pair_at.ensures.number
    (sym c.is_row_readable.ensures ∙ c.if-is_row_readable.false)

pub returns : goal.returns
returns c = first-none (readable_row c.args.t c.args.column (rows_of c.args.w.now c.args.v)) c.loop-i.invariant c.loop-i-test.false
