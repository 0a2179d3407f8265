use mathlib.Core.List.{◌∷◌, []}
use mathlib.Core.Path.{refl, sym, ◌∙◌}
use Prim.Native.Nat.{◌+◌}
use native.Mathlib.Omega.{arith}
use lib.ListN.{take, drop}
use Rattle.rows.specs.Rows.{row_fields}
use Rattle.rows.specs.Forms.{field_in}
use Rattle.rows.proofs.Forms.{field-here, fields-gone}
use Rattle.text_words.specs.Words.{between, Filling, Unfilled}
use Rattle.text_words.proofs.WordsFrom.{word-missing, word-found, word-length}
use Rattle.text_fields.specs.FieldWords.{field_said, word_bytes}
use Rattle.text_fields.proofs.RowWords.{OnWay, way-start, missing-none, missing-lays, word_room, bad-none, bad-lays, way_next, end-places, end-lays}
use Rattle.text_fields.proofs.fields.Goals as goal

pub loop-i-init : goal.loop-i-init
loop-i-init c = (refl, way-start _ c.requires.room)

pub returns-in_err-end : goal.returns-in_err-end
returns-in_err-end c =
    let way : let l = c.loop-i in let s = c.args in OnWay (take s.n (row_fields s.t)) s.line.now s.out.now l.out s.from s.at (field_in (row_fields s.t) l.i ∷ drop (l.i + 1) (take s.n (row_fields s.t))) l.a l.k = rw (field-here (row_fields c.args.t) c.args.n c.loop-i.i c.loop-i-test.true c.requires.fields) at c.loop-i.invariant.1 in
    let n = word-missing _ _ (sym c.word_at.ensures ∙ c.in_err-end.was) in
    rw c.from_residual.ensures (record { places = missing-none way n; lays = missing-lays way n })

pub slice_bounds-field-count : goal.slice_bounds-field-count
slice_bounds-field-count c = let found = word-found _ _ (sym c.word_at.ensures ∙ c.in_ok-end.was) in omega (arith, found.forward)

pub slice_bounds-field-start : goal.slice_bounds-field-start
slice_bounds-field-start c = let found = word-found _ _ (sym c.word_at.ensures ∙ c.in_ok-end.was) in found.forward

pub slice_bounds-field-end : goal.slice_bounds-field-end
slice_bounds-field-end c = let found = word-found _ _ (sym c.word_at.ensures ∙ c.in_ok-end.was) in found.inside

pub field-requires : goal.field-requires
field-requires c =
    let way : let l = c.loop-i in let s = c.args in OnWay (take s.n (row_fields s.t)) s.line.now s.out.now l.out s.from s.at (field_in (row_fields s.t) l.i ∷ drop (l.i + 1) (take s.n (row_fields s.t))) l.a l.k = rw (field-here (row_fields c.args.t) c.args.n c.loop-i.i c.loop-i-test.true c.requires.fields) at c.loop-i.invariant.1 in
    let found = word-found _ _ (sym c.word_at.ensures ∙ c.in_ok-end.was) in
    record { room = word_room way found; short = omega (arith, word-length found, found.inside, c.requires.room.line_short) }

pub returns-in_err-k : goal.returns-in_err-k
returns-in_err-k c =
    let way : let l = c.loop-i in let s = c.args in OnWay (take s.n (row_fields s.t)) s.line.now s.out.now l.out s.from s.at (field_in (row_fields s.t) l.i ∷ drop (l.i + 1) (take s.n (row_fields s.t))) l.a l.k = rw (field-here (row_fields c.args.t) c.args.n c.loop-i.i c.loop-i-test.true c.requires.fields) at c.loop-i.invariant.1 in
    let found = word-found _ _ (sym c.word_at.ensures ∙ c.in_ok-end.was) in
    let u : Unfilled _ _ (field_said (field_in (row_fields c.args.t) c.loop-i.i) (between c.loop-i.a c.in_ok-end.end c.args.line.now)) = rw c.form_at.ensures at c.in_err-k.ensures in
    rw c.from_residual-in_err-k.ensures (record { places = bad-none way found u; lays = bad-lays way found u })

pub overflow_add-a : goal.overflow_add-a
overflow_add-a c = let found = word-found _ _ (sym c.word_at.ensures ∙ c.in_ok-end.was) in omega (arith, found.inside)

pub loop-i-preserved : goal.loop-i-preserved
loop-i-preserved c =
    let way : let l = c.loop-i in let s = c.args in OnWay (take s.n (row_fields s.t)) s.line.now s.out.now l.out s.from s.at (field_in (row_fields s.t) l.i ∷ drop (l.i + 1) (take s.n (row_fields s.t))) l.a l.k = rw (field-here (row_fields c.args.t) c.args.n c.loop-i.i c.loop-i-test.true c.requires.fields) at c.loop-i.invariant.1 in
    let found = word-found _ _ (sym c.word_at.ensures ∙ c.in_ok-end.was) in
    let w = between c.loop-i.a c.in_ok-end.end c.args.line.now in
    let said : Filling c.in_ok-k.k c.loop-i.k (word_bytes w) c.loop-i.out c.field.new.out (field_said (field_in (row_fields c.args.t) c.loop-i.i) w) = rw c.form_at.ensures at c.in_ok-k.ensures in
    (c.field.auto.out ∙ c.loop-i.invariant.0, way_next way found said)

pub returns : goal.returns
returns c =
    let g = fields-gone (row_fields c.args.t) c.args.n c.loop-i.i c.loop-i-test.false c.requires.fields in
    let y : OnWay _ _ _ _ _ _ [] _ _ = rw g at c.loop-i.invariant.1 in
    record { places = end-places y; lays = end-lays y }
