-- `edit_rights::judge_in` meets its contract: 128 parts are room for the instance of any whole key, and with another column in its place the instance is that
-- of the other (`Written`). Assumes nothing.
use mathlib.Core.Path.{◌≡◌, refl, ap, ap₂, ◌∙◌}
use mathlib.Core.Bool.{true}
use Prim.Native.Nat.{◌-◌}
use native.Mathlib.Omega.{arith}
use lib.ListN.{length, set, take}
use Rattle.rows.specs.Rows.{index_of}
use Rattle.decision_steps.specs.Decision.{step5}
use Rattle.decision_parts.specs.Parts.{rows_of}
use Rattle.instance_encode.specs.Instances.{counted, instance, lists}
use Rattle.instance_encode.proofs.Encoded.{encoded-always, encoded-room, encoded-few, encoded-parts}
use Rattle.edit_rules.specs.Edits.{first_refusal}
use Rattle.edit_rules.proofs.Refusals.{refusals-same}
use Rattle.edit_rights.proofs.Written.{first-listed, column-set, column-inside}
use Rattle.edit_rights.proofs.judge_in.Goals as goal

pub returns-in_default : goal.returns-in_default
returns-in_default c =
    let listed : lists c.args.t c.columns_written-columns.result.first ≡ true = let a = c.args in let r = c.columns_written-columns in first-listed a.s a.t r.result.first r.result.count r.ensures.written in
    absurd (encoded-always c.args.t _ c.args.key.now listed c.requires.whole c.encode.ensures refl c.in_default.is)

pub slice_bounds-parts-end : goal.slice_bounds-parts-end
slice_bounds-parts-end c =
    let listed : lists c.args.t c.columns_written-columns.result.first ≡ true = let a = c.args in let r = c.columns_written-columns in first-listed a.s a.t r.result.first r.result.count r.ensures.written in
    encoded-room c.args.t _ c.args.key.now listed c.requires.whole c.encode.ensures refl c.in-Ok.is

pub judge_columns-requires : goal.judge_columns-requires
judge_columns-requires c =
    let listed : lists c.args.t c.columns_written-columns.result.first ≡ true = let a = c.args in let r = c.columns_written-columns in first-listed a.s a.t r.result.first r.result.count r.ensures.written in
    let parts_are : let a = c.args in take (c.in-Ok.n - 0) c.encode.new.out ≡ instance a.t c.columns_written-columns.result.first (index_of a.t a.key.now) = encoded-parts c.args.t _ c.args.key.now listed c.requires.whole c.encode.ensures refl c.in-Ok.is in
    let a = c.args in
    let r = c.columns_written-columns in record { view = c.requires.view; parts = encoded-few a.t _ a.key.now listed c.requires.whole c.encode.ensures refl c.in-Ok.is; place = omega (arith, ap length parts_are, column-inside a.t r.result.first (index_of a.t a.key.now), c.base_len.ensures.parts); few = r.ensures.few }

pub returns : goal.returns
returns c =
    let listed : lists c.args.t c.columns_written-columns.result.first ≡ true = let a = c.args in let r = c.columns_written-columns in first-listed a.s a.t r.result.first r.result.count r.ensures.written in
    let parts_are : let a = c.args in take (c.in-Ok.n - 0) c.encode.new.out ≡ instance a.t c.columns_written-columns.result.first (index_of a.t a.key.now) = encoded-parts c.args.t _ c.args.key.now listed c.requires.whole c.encode.ensures refl c.in-Ok.is in
    let a = c.args in
    let r = c.columns_written-columns in
    let rows = rows_of a.w.now a.v in
    c.judge_columns.ensures
    ∙ refusals-same
    (λ column. ap (λ u. step5 u rows)
    (ap₂ (λ u at. set u at column) parts_are c.base_len.ensures.parts
    ∙ column-set a.t r.result.first column (index_of a.t a.key.now)))
    (counted r.result.first r.result.count)
    ∙ ap (first_refusal (λ column. step5 (instance a.t column (index_of a.t a.key.now)) rows)) r.ensures.written
