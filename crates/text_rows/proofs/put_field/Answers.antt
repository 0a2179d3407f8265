-- `text_rows::put_field` meets its contract: in each arm the form is known, and its text is that of the part, or the number, that the
-- field holds. Assumes nothing.
use mathlib.Core.Path.{sym, ◌∙◌}
use native.Mathlib.Omega.{arith}
use Rattle.numbers.proofs.BigEndian.{get_d_front}
use Rattle.rows.specs.declared.Form.TheVariants.{Name, Subtree, Large, Small}
use Rattle.text_rows.specs.FieldText.{FieldIn}
use Rattle.text_rows.proofs.FieldText.{name-start, name-part, subtree-start, subtree-part}
use Rattle.text_rows.proofs.put_field.Goals as goal

-- the field, by its form

pub slice_bounds-put_name-count : goal.slice_bounds-put_name-count
slice_bounds-put_name-count c =
    let name : let s = c.args in FieldIn (Name c.in-Name.field-0 c.in-Name.field-1) s.row.now s.from s.end = rw c.in-Name.is at c.requires.whole in
    let s = c.args in
    omega (arith, name-start _ _ s.row.now s.from name)

pub slice_bounds-put_name-start : goal.slice_bounds-put_name-start
slice_bounds-put_name-start c =
    let name : let s = c.args in FieldIn (Name c.in-Name.field-0 c.in-Name.field-1) s.row.now s.from s.end = rw c.in-Name.is at c.requires.whole in
    let s = c.args in name-start _ _ s.row.now s.from name

pub put_name-requires : goal.put_name-requires
put_name-requires c =
    let name : let s = c.args in FieldIn (Name c.in-Name.field-0 c.in-Name.field-1) s.row.now s.from s.end = rw c.in-Name.is at c.requires.whole in
    rw (name-part _ _ c.args.row.now c.args.from name) (rw c.in-Name.is at c.requires.room)

pub slice_bounds-put_dotted_quads-count : goal.slice_bounds-put_dotted_quads-count
slice_bounds-put_dotted_quads-count c =
    let subtree : let s = c.args in FieldIn (Subtree c.in-Subtree.field-0 c.in-Subtree.field-1) s.row.now s.from s.end = rw c.in-Subtree.is at c.requires.whole in
    let s = c.args in
    omega (arith, subtree-start _ _ s.row.now s.from subtree)

pub slice_bounds-put_dotted_quads-start : goal.slice_bounds-put_dotted_quads-start
slice_bounds-put_dotted_quads-start c =
    let subtree : let s = c.args in FieldIn (Subtree c.in-Subtree.field-0 c.in-Subtree.field-1) s.row.now s.from s.end = rw c.in-Subtree.is at c.requires.whole in
    let s = c.args in
    subtree-start _ _ s.row.now s.from subtree

pub put_dotted_quads-requires : goal.put_dotted_quads-requires
put_dotted_quads-requires c =
    let subtree : let s = c.args in FieldIn (Subtree c.in-Subtree.field-0 c.in-Subtree.field-1) s.row.now s.from s.end = rw c.in-Subtree.is at c.requires.whole in
    rw (subtree-part _ _ c.args.row.now c.args.from subtree) (rw c.in-Subtree.is at c.requires.room)

pub quad_at-requires : goal.quad_at-requires
quad_at-requires c =
    let large : let s = c.args in FieldIn (Large c.in-Large.field-0 c.in-Large.field-1) s.row.now s.from s.end = rw c.in-Large.is at c.requires.whole in
    let f = large in omega (arith, f.ends, f.inside)

pub put_decimal-requires : goal.put_decimal-requires
put_decimal-requires c = rw c.quad_at.ensures.value (rw c.in-Large.is at c.requires.room)

pub bounds-row-from : goal.bounds-row-from
bounds-row-from c =
    let small : let s = c.args in FieldIn (Small c.in-Small.field-0 c.in-Small.field-1) s.row.now s.from s.end = rw c.in-Small.is at c.requires.whole in
    let f = small in omega (arith, f.ends, f.inside)

pub put_decimal-requires-in-Small : goal.put_decimal-requires-in-Small
put_decimal-requires-in-Small c = rw (c.wide.ensures.equal ∙ sym (get_d_front c.args.row.now c.args.from)) (rw c.in-Small.is at c.requires.room)

pub returns-in-Name : goal.returns-in-Name
returns-in-Name c =
    let name : let s = c.args in FieldIn (Name c.in-Name.field-0 c.in-Name.field-1) s.row.now s.from s.end = rw c.in-Name.is at c.requires.whole in
    let s = c.args in
    rw c.in-Name.is (rw (name-part _ _ s.row.now s.from name) at c.put_name.ensures)

pub returns-in-Subtree : goal.returns-in-Subtree
returns-in-Subtree c =
    let subtree : let s = c.args in FieldIn (Subtree c.in-Subtree.field-0 c.in-Subtree.field-1) s.row.now s.from s.end = rw c.in-Subtree.is at c.requires.whole in
    let s = c.args in
    rw c.in-Subtree.is (rw (subtree-part _ _ s.row.now s.from subtree) at c.put_dotted_quads.ensures)

pub returns-in-Large : goal.returns-in-Large
returns-in-Large c = rw c.in-Large.is (rw c.quad_at.ensures.value at c.put_decimal.ensures)

pub returns-in-Small : goal.returns-in-Small
returns-in-Small c =
    let s = c.args in
    rw c.in-Small.is
    (rw (c.wide.ensures.equal ∙ sym (get_d_front s.row.now s.from)) at c.put_decimal-in-Small.ensures)
