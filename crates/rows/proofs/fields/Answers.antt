use mathlib.Core.Path.{◌∙◌}
use mathlib.Core.List.{List, ◌∷◌}
use Prim.Native.Nat.{ℕ, ◌+◌, ◌≤◌, ◌<◌}
use lib.ListN.{length, take, drop}
use Rattle.rows.specs.Fields.{Field}
use Rattle.rows.specs.Forms.{field_in}
use Rattle.rows.specs.Rows.{row_fields}
use Rattle.rows.specs.Types.{Step}
use Rattle.answers.proofs.Results.{handed_on}
use Rattle.rows.proofs.Forms.{field-here, fields-gone}
use Rattle.rows.proofs.Walks.{Walk, start, go, stop, arrive}
use Rattle.rows.proofs.fields.Goals as goal

-- in a turn the field at i is the next one
next : (ks : List Field) (to i : ℕ) {all : Step} {row : List ℕ} {a : ℕ} → i < to → to ≤ length ks → Walk all (drop i (take to ks)) row a
    → Walk all (field_in ks i ∷ drop (i + 1) (take to ks)) row a
next ks to i h l w = rw (field-here ks to i h l) at w

pub loop-i-init : goal.loop-i-init
loop-i-init c = start (drop c.args.from (take c.args.to (row_fields c.args.t))) c.args.row.now c.args.at c.requires.inside

pub returns-in_err-a : goal.returns-in_err-a
returns-in_err-a c =
    let here = next (row_fields c.args.t) c.args.to c.loop-i.i c.loop-i-test.true c.requires.fields c.loop-i.invariant in
    handed_on c.in_err-a.was c.from_residual.ensures ∙ stop here (rw c.form_at.ensures at c.field.ensures) c.in_err-a.was

pub loop-i-preserved : goal.loop-i-preserved
loop-i-preserved c =
    let here = next (row_fields c.args.t) c.args.to c.loop-i.i c.loop-i-test.true c.requires.fields c.loop-i.invariant in
    go here (rw c.form_at.ensures at c.field.ensures) c.in_ok-a.was

pub returns : goal.returns
returns c = arrive (rw (fields-gone (row_fields c.args.t) c.args.to c.loop-i.i c.loop-i-test.false c.requires.fields) at c.loop-i.invariant)
