use mathlib.Core.List.{List}
use mathlib.Core.Path.{◌≡◌, refl, ◌∙◌}
use Prim.Native.Nat.{ℕ, ◌*◌}
use native.Mathlib.Omega.{arith}
use lib.ListN.{length, take}
use Rattle.text_words.specs.Words.{words_from}
use Rattle.line_fields.specs.declared.Kind.TheVariants.{Edit}
use Rattle.line_fields.specs.Buffers.{buffers, field_into}
use Rattle.set_words.specs.SetWords.{edits_said}
use Rattle.set_words.specs.Reading.{Parted}
use Rattle.set_words.specs.Buffers.{edits_into}
use Rattle.set_words.proofs.Fields.{Reads, field-none, field-into, field-reads, edit-kept}
use Rattle.set_words.proofs.EditWords.{behind-none, behind_more, behind-over}
use Rattle.set_words.proofs.EditSlots.{front-on}
use Rattle.set_words.proofs.EditsOnWay.{Passed, way-none, none_left, way-start, way-room, way-bad, bad-left, way-edit}
use Rattle.set_words.proofs.EditsOnWay.{passed-all, all_left, passed_over, over-left, passed-more, passed-as, reads_whole, reads-not}
use Rattle.set_words.proofs.read_edits.Goals as goal

pub returns-then-line-at : goal.returns-then-line-at
returns-then-line-at c = let s = c.args in record { reads = reads_whole _ (way-none s.at s.line.now s.bytes.now c.no_edits-set.ensures c.if-line-at.true); lays = none_left s.at s.line.now _ c.if-line-at.true; keeps = refl }

pub loop-e-init : goal.loop-e-init
loop-e-init c = (way-start c.no_edits-set.ensures c.requires c.if-line-at.false, refl, refl, omega arith, refl)

pub field-requires : goal.field-requires
field-requires c = c.loop-e.invariant.0.lent

pub shape_of-bytes-in_default : goal.shape_of-bytes-in_default
shape_of-bytes-in_default c =
    let bytes_of : List ℕ = c.field.new.bytes in
    let bytes_same : length (bytes_of) ≡ length c.args.bytes.now = c.field.auto.bytes ∙ c.loop-e.invariant.1 in
    bytes_same

pub shape_of-parts-in_default : goal.shape_of-parts-in_default
shape_of-parts-in_default c =
    let parts-of : List ℕ = c.field.new.parts in
    let parts_same : length (parts-of) ≡ length c.args.parts.now = c.field.auto.parts ∙ c.loop-e.invariant.2 in
    parts_same

pub returns-in_default : goal.returns-in_default
returns-in_default c =
    let bytes_of : List ℕ = c.field.new.bytes in
    let parts-of : List ℕ = c.field.new.parts in
    let into : let l = c.loop-e in field_into Edit c.args.line.now (words_from l.next c.args.line.now) (buffers l.bytes l.parts) ≡ buffers (bytes_of) (parts-of) = field-into Edit c.loop-e.invariant.0.lent c.field.ensures.lays in
    let stays : let l = c.loop-e in take (4 * l.next) (bytes_of) ≡ take (4 * l.next) l.bytes = edit-kept c.loop-e.invariant.0.lent c.field.ensures.lays in
    let kept : let s = c.args in take (4 * s.at) (bytes_of) ≡ take (4 * s.at) s.bytes.now = let l = c.loop-e in let s = c.args in front-on (4 * s.at) (4 * l.next) l.bytes bytes_of (omega (arith, l.invariant.3)) stays ∙ l.invariant.4 in
    let y = c.loop-e.invariant.0 in
    let e = field-none _ _ _ c.in_default.is c.field.ensures.finds in
    record { reads = reads-not _ (way-bad y e); lays = bad-left y into e; keeps = kept }

pub with_edit-set-requires : goal.with_edit-set-requires
with_edit-set-requires c =
    let r = way-room c.loop-e.invariant.0 in
    record { room = r.0; few = r.1 }

pub shape_of-bytes-in-Nothing : goal.shape_of-bytes-in-Nothing
shape_of-bytes-in-Nothing c =
    let bytes_of : List ℕ = c.field.new.bytes in
    let bytes_same : length (bytes_of) ≡ length c.args.bytes.now = c.field.auto.bytes ∙ c.loop-e.invariant.1 in
    bytes_same

pub shape_of-parts-in-Nothing : goal.shape_of-parts-in-Nothing
shape_of-parts-in-Nothing c =
    let parts-of : List ℕ = c.field.new.parts in
    let parts_same : length (parts-of) ≡ length c.args.parts.now = c.field.auto.parts ∙ c.loop-e.invariant.2 in
    parts_same

pub returns-in-Nothing : goal.returns-in-Nothing
returns-in-Nothing c =
    let bytes_of : List ℕ = c.field.new.bytes in
    let parts-of : List ℕ = c.field.new.parts in
    let into : let l = c.loop-e in field_into Edit c.args.line.now (words_from l.next c.args.line.now) (buffers l.bytes l.parts) ≡ buffers (bytes_of) (parts-of) = field-into Edit c.loop-e.invariant.0.lent c.field.ensures.lays in
    let found : Reads Edit c.in-Some.e c.in-Some.end c.loop-e.next c.args.line.now (bytes_of) (parts-of) = field-reads Edit c.loop-e.invariant.0.lent c.field.ensures.lays c.in-Some.is c.field.ensures.finds c.field.auto.bytes c.field.auto.parts in
    let stays : let l = c.loop-e in take (4 * l.next) (bytes_of) ≡ take (4 * l.next) l.bytes = edit-kept c.loop-e.invariant.0.lent c.field.ensures.lays in
    let passed : let s = c.args in let ws = words_from s.at s.line.now in Passed (edits_said ws) (edits_into s.line.now ws (buffers s.bytes.now s.parts.now)) s.line.now c.with_edit-set.result (bytes_of) (parts-of) c.in-Some.end = passed-as c.with_edit-set.ensures (way-edit c.loop-e.invariant.0 into found stays) in
    let kept : let s = c.args in take (4 * s.at) (bytes_of) ≡ take (4 * s.at) s.bytes.now = let l = c.loop-e in let s = c.args in front-on (4 * s.at) (4 * l.next) l.bytes bytes_of (omega (arith, l.invariant.3)) stays ∙ l.invariant.4 in
    let p = passed in
    let e = behind-none _ _ c.in-Nothing.is c.behind_edit.ensures in
    record { reads = reads_whole _ (passed-all p e); lays = all_left p e; keeps = kept }

pub loop-e-smaller : goal.loop-e-smaller
loop-e-smaller c =
    let next-at : Parted c.in-Edit.n c.in-Some.end c.args.line.now = behind_more _ _ c.in-Edit.is c.behind_edit.ensures in
    let bytes_of : List ℕ = c.field.new.bytes in
    let parts-of : List ℕ = c.field.new.parts in
    let found : Reads Edit c.in-Some.e c.in-Some.end c.loop-e.next c.args.line.now (bytes_of) (parts-of) = field-reads Edit c.loop-e.invariant.0.lent c.field.ensures.lays c.in-Some.is c.field.ensures.finds c.field.auto.bytes c.field.auto.parts in
    omega (arith, (next-at).forward, (next-at).next_in, (found).forward)

pub loop-e-preserved : goal.loop-e-preserved
loop-e-preserved c =
    let bytes_of : List ℕ = c.field.new.bytes in
    let parts-of : List ℕ = c.field.new.parts in
    let into : let l = c.loop-e in field_into Edit c.args.line.now (words_from l.next c.args.line.now) (buffers l.bytes l.parts) ≡ buffers (bytes_of) (parts-of) = field-into Edit c.loop-e.invariant.0.lent c.field.ensures.lays in
    let found : Reads Edit c.in-Some.e c.in-Some.end c.loop-e.next c.args.line.now (bytes_of) (parts-of) = field-reads Edit c.loop-e.invariant.0.lent c.field.ensures.lays c.in-Some.is c.field.ensures.finds c.field.auto.bytes c.field.auto.parts in
    let stays : let l = c.loop-e in take (4 * l.next) (bytes_of) ≡ take (4 * l.next) l.bytes = edit-kept c.loop-e.invariant.0.lent c.field.ensures.lays in
    let passed : let s = c.args in let ws = words_from s.at s.line.now in Passed (edits_said ws) (edits_into s.line.now ws (buffers s.bytes.now s.parts.now)) s.line.now c.with_edit-set.result (bytes_of) (parts-of) c.in-Some.end = passed-as c.with_edit-set.ensures (way-edit c.loop-e.invariant.0 into found stays) in
    let next-at : Parted c.in-Edit.n c.in-Some.end c.args.line.now = behind_more _ _ c.in-Edit.is c.behind_edit.ensures in
    let bytes_same : length (bytes_of) ≡ length c.args.bytes.now = c.field.auto.bytes ∙ c.loop-e.invariant.1 in
    let parts_same : length (parts-of) ≡ length c.args.parts.now = c.field.auto.parts ∙ c.loop-e.invariant.2 in
    let kept : let s = c.args in take (4 * s.at) (bytes_of) ≡ take (4 * s.at) s.bytes.now = let l = c.loop-e in let s = c.args in front-on (4 * s.at) (4 * l.next) l.bytes bytes_of (omega (arith, l.invariant.3)) stays ∙ l.invariant.4 in (
      passed-more passed next-at,
      bytes_same,
      parts_same,
      omega (arith, (next-at).forward, (found).forward, c.loop-e.invariant.3),
      kept,
    )

pub shape_of-bytes-in-Malformed : goal.shape_of-bytes-in-Malformed
shape_of-bytes-in-Malformed c =
    let bytes_of : List ℕ = c.field.new.bytes in
    let bytes_same : length (bytes_of) ≡ length c.args.bytes.now = c.field.auto.bytes ∙ c.loop-e.invariant.1 in
    bytes_same

pub shape_of-parts-in-Malformed : goal.shape_of-parts-in-Malformed
shape_of-parts-in-Malformed c =
    let parts-of : List ℕ = c.field.new.parts in
    let parts_same : length (parts-of) ≡ length c.args.parts.now = c.field.auto.parts ∙ c.loop-e.invariant.2 in
    parts_same

pub returns-in-Malformed : goal.returns-in-Malformed
returns-in-Malformed c =
    let bytes_of : List ℕ = c.field.new.bytes in
    let parts-of : List ℕ = c.field.new.parts in
    let into : let l = c.loop-e in field_into Edit c.args.line.now (words_from l.next c.args.line.now) (buffers l.bytes l.parts) ≡ buffers (bytes_of) (parts-of) = field-into Edit c.loop-e.invariant.0.lent c.field.ensures.lays in
    let found : Reads Edit c.in-Some.e c.in-Some.end c.loop-e.next c.args.line.now (bytes_of) (parts-of) = field-reads Edit c.loop-e.invariant.0.lent c.field.ensures.lays c.in-Some.is c.field.ensures.finds c.field.auto.bytes c.field.auto.parts in
    let stays : let l = c.loop-e in take (4 * l.next) (bytes_of) ≡ take (4 * l.next) l.bytes = edit-kept c.loop-e.invariant.0.lent c.field.ensures.lays in
    let passed : let s = c.args in let ws = words_from s.at s.line.now in Passed (edits_said ws) (edits_into s.line.now ws (buffers s.bytes.now s.parts.now)) s.line.now c.with_edit-set.result (bytes_of) (parts-of) c.in-Some.end = passed-as c.with_edit-set.ensures (way-edit c.loop-e.invariant.0 into found stays) in
    let kept : let s = c.args in take (4 * s.at) (bytes_of) ≡ take (4 * s.at) s.bytes.now = let l = c.loop-e in let s = c.args in front-on (4 * s.at) (4 * l.next) l.bytes bytes_of (omega (arith, l.invariant.3)) stays ∙ l.invariant.4 in
    let p = passed in
    let o = behind-over _ _ c.in-Malformed.is c.behind_edit.ensures in
    record { reads = reads-not _ (passed_over p o); lays = over-left p o; keeps = kept }
