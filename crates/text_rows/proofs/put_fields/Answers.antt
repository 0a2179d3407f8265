use mathlib.Core.List.{List, ◌∷◌}
use mathlib.Core.Path.{sym, ap, subst, ◌∙◌}
use Prim.Native.Nat.{◌+◌}
use native.Mathlib.Omega.{arith}
use lib.ListN.{take, drop}
use Rattle.rows.specs.Fields.{Field, values}
use Rattle.rows.specs.Rows.{row_fields}
use Rattle.rows.specs.Forms.{field_of}
use Rattle.text_rows.specs.RowText.{fields_text}
use Rattle.rows.proofs.Forms.{field-here, fields-gone}
use Rattle.text_rows.proofs.RowText.{Left, left-start, left_end, field-sound, space-room, field_room, left-next}
use Rattle.text_rows.proofs.put_fields.Goals as goal

-- in a turn the field at i is the next one

pub loop-i-init : goal.loop-i-init
loop-i-init c = left-start (take c.args.n (row_fields c.args.t)) c.args.row.now c.args.at c.args.out.now c.requires.whole.sound c.requires.room

pub form_at-f-requires : goal.form_at-f-requires
form_at-f-requires c = omega (arith, c.loop-i-test.true, c.requires.whole.places)

pub field_end-end-requires : goal.field_end-end-requires
field_end-end-requires c =
    let here : let s = c.args in let ks = take s.n (row_fields s.t) in let l = c.loop-i in Left (fields_text ks (values ks s.row.now)) s.at s.out.now (field_of c.form_at-f.result ∷ drop (l.i + 1) ks) s.row.now l.k l.o l.out = let ks : List Field = take c.args.n (row_fields c.args.t) in let l = c.loop-i in subst (λ fs. Left (fields_text ks (values ks c.args.row.now)) c.args.at c.args.out.now fs c.args.row.now l.k l.o l.out) (field-here (row_fields c.args.t) c.args.n l.i c.loop-i-test.true c.requires.whole.places ∙ ap {B = List Field} (λ f. f ∷ drop (l.i + 1) ks) (sym c.form_at-f.ensures)) l.invariant in
    field-sound c.form_at-f.result here

pub put_octet-next-requires : goal.put_octet-next-requires
put_octet-next-requires c =
    let here : let s = c.args in let ks = take s.n (row_fields s.t) in let l = c.loop-i in Left (fields_text ks (values ks s.row.now)) s.at s.out.now (field_of c.form_at-f.result ∷ drop (l.i + 1) ks) s.row.now l.k l.o l.out = let ks : List Field = take c.args.n (row_fields c.args.t) in let l = c.loop-i in subst (λ fs. Left (fields_text ks (values ks c.args.row.now)) c.args.at c.args.out.now fs c.args.row.now l.k l.o l.out) (field-here (row_fields c.args.t) c.args.n l.i c.loop-i-test.true c.requires.whole.places ∙ ap {B = List Field} (λ f. f ∷ drop (l.i + 1) ks) (sym c.form_at-f.ensures)) l.invariant in
    space-room c.form_at-f.result here c.field_end-end.ensures

pub put_field-o-requires : goal.put_field-o-requires
put_field-o-requires c =
    let here : let s = c.args in let ks = take s.n (row_fields s.t) in let l = c.loop-i in Left (fields_text ks (values ks s.row.now)) s.at s.out.now (field_of c.form_at-f.result ∷ drop (l.i + 1) ks) s.row.now l.k l.o l.out = let ks : List Field = take c.args.n (row_fields c.args.t) in let l = c.loop-i in subst (λ fs. Left (fields_text ks (values ks c.args.row.now)) c.args.at c.args.out.now fs c.args.row.now l.k l.o l.out) (field-here (row_fields c.args.t) c.args.n l.i c.loop-i-test.true c.requires.whole.places ∙ ap {B = List Field} (λ f. f ∷ drop (l.i + 1) ks) (sym c.form_at-f.ensures)) l.invariant in
    record { whole = c.field_end-end.ensures; room = field_room c.form_at-f.result here c.field_end-end.ensures c.put_octet-next.ensures }

pub loop-i-preserved : goal.loop-i-preserved
loop-i-preserved c =
    let here : let s = c.args in let ks = take s.n (row_fields s.t) in let l = c.loop-i in Left (fields_text ks (values ks s.row.now)) s.at s.out.now (field_of c.form_at-f.result ∷ drop (l.i + 1) ks) s.row.now l.k l.o l.out = let ks : List Field = take c.args.n (row_fields c.args.t) in let l = c.loop-i in subst (λ fs. Left (fields_text ks (values ks c.args.row.now)) c.args.at c.args.out.now fs c.args.row.now l.k l.o l.out) (field-here (row_fields c.args.t) c.args.n l.i c.loop-i-test.true c.requires.whole.places ∙ ap {B = List Field} (λ f. f ∷ drop (l.i + 1) ks) (sym c.form_at-f.ensures)) l.invariant in
    left-next c.form_at-f.result here c.field_end-end.ensures c.put_octet-next.ensures c.put_field-o.ensures

pub shape_of-out : goal.shape_of-out
shape_of-out c = c.loop-i.invariant.onward.kept

pub returns : goal.returns
returns c = left_end (rw (fields-gone (row_fields c.args.t) c.args.n c.loop-i.i c.loop-i-test.false c.requires.whole.places) at c.loop-i.invariant)
