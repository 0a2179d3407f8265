use mathlib.Core.List.{◌∷◌}
use mathlib.Core.Option.{none}
use mathlib.Core.Path.{◌≡◌, refl, sym, ap, ◌∙◌}
use Prim.Native.Nat.{◌+◌, ◌*◌}
use native.Mathlib.Omega.{arith}
use lib.ListN.{length, take, drop, length-set}
use Rattle.text_words.specs.Words.{words_from}
use Rattle.line_fields.specs.Kinds.{kind_said, values_said}
use Rattle.line_fields.specs.Slots.{kind_in, Lies}
use Rattle.line_fields.specs.Buffers.{buffers, fields_into}
use Rattle.line_fields.proofs.Buffers.{into-stop, into_next}
use Rattle.line_fields.proofs.LineSlots.{OnWay, kinds-here, kinds-gone, adds, way-start, way-bad, way_next, way_end, fields-not}
use Rattle.line_fields.proofs.read.Goals as goal

-- in a turn the kind at i is the next one

pub loop-i-init : goal.loop-i-init
loop-i-init c = (ap length c.no_slots-slots.ensures, refl, refl, way-start _ _ _ c.requires.lent, refl)

pub bounds-kinds-i : goal.bounds-kinds-i
bounds-kinds-i c = omega (arith, c.loop-i-test.true, c.requires.kinds.few)

pub field-requires : goal.field-requires
field-requires c = c.loop-i.invariant.3.lent

pub returns-in_default : goal.returns-in_default
returns-in_default c =
    let way : let l = c.loop-i in let s = c.args in OnWay (values_said (take s.n s.kinds) (words_from s.at s.line.now)) s.line.now s.kinds l.slots l.bytes l.parts l.i l.next (kind_in s.kinds l.i ∷ drop (l.i + 1) (take s.n s.kinds)) = rw (kinds-here c.args.kinds c.args.n c.loop-i.i c.loop-i-test.true c.requires.kinds.inside) at c.loop-i.invariant.3 in
    let left : let l = c.loop-i in let s = c.args in fields_into (take s.n s.kinds) s.line.now (words_from s.at s.line.now) (buffers s.bytes.now s.parts.now) ≡ fields_into (kind_in s.kinds l.i ∷ drop (l.i + 1) (take s.n s.kinds)) s.line.now (words_from l.next s.line.now) (buffers l.bytes l.parts) = rw (kinds-here c.args.kinds c.args.n c.loop-i.i c.loop-i-test.true c.requires.kinds.inside) at c.loop-i.invariant.4 in
    let l = c.loop-i in
    let s = c.args in
    let k = kind_in s.kinds l.i in
    let e : kind_said k (words_from l.next s.line.now) ≡ none = rw c.in_default.is at c.field.ensures.finds in record { reads = fields-not _ _ (way-bad way e); lays = sym (left ∙ into-stop k _ l.next s.line.now l.invariant.3.lent.at_in (buffers l.bytes l.parts) c.field.ensures.lays e) }

pub loop-i-preserved : goal.loop-i-preserved
loop-i-preserved c =
    let way : let l = c.loop-i in let s = c.args in OnWay (values_said (take s.n s.kinds) (words_from s.at s.line.now)) s.line.now s.kinds l.slots l.bytes l.parts l.i l.next (kind_in s.kinds l.i ∷ drop (l.i + 1) (take s.n s.kinds)) = rw (kinds-here c.args.kinds c.args.n c.loop-i.i c.loop-i-test.true c.requires.kinds.inside) at c.loop-i.invariant.3 in
    let left : let l = c.loop-i in let s = c.args in fields_into (take s.n s.kinds) s.line.now (words_from s.at s.line.now) (buffers s.bytes.now s.parts.now) ≡ fields_into (kind_in s.kinds l.i ∷ drop (l.i + 1) (take s.n s.kinds)) s.line.now (words_from l.next s.line.now) (buffers l.bytes l.parts) = rw (kinds-here c.args.kinds c.args.n c.loop-i.i c.loop-i-test.true c.requires.kinds.inside) at c.loop-i.invariant.4 in
    let l = c.loop-i in
    let b = c.field.auto.bytes in
    let p = c.field.auto.parts in
    let s = c.args in
    let k = kind_in s.kinds l.i in
    let y : Lies c.in-Some.s c.in-Some.behind (4 * l.next) l.next s.line.now (kind_said k (words_from l.next s.line.now)) =
    rw c.in-Some.is at c.field.ensures.finds in (
      length-set l.slots _ _ ∙ l.invariant.0,
      b ∙ l.invariant.1,
      p ∙ l.invariant.2,
      way_next way (omega (arith, l.invariant.0, c.loop-i-test.true, c.requires.kinds.few)) b p (adds k _ _ y c.field.ensures.lays),
      left ∙ into_next k _ l.next s.line.now l.invariant.3.lent.at_in (buffers l.bytes l.parts) c.field.ensures.lays y.is,
    )

pub returns : goal.returns
unfolding fields_into
returns c =
    let l = c.loop-i in
    let q : c.args.n ≡ l.i = omega (arith, c.loop-i-test.false) in
    let g = kinds-gone c.args.kinds c.args.n l.i c.loop-i-test.false c.requires.kinds.inside in
    record { reads = way_end (rw g at l.invariant.3) q c.requires.kinds.inside; lays = sym (rw g at l.invariant.4) }
