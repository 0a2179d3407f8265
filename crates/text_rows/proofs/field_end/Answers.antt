-- `text_rows::field_end` meets its contract: in each arm the form is known, and with it how many bytes the field takes. Assumes nothing.
use mathlib.Core.Option.{none}
use mathlib.Core.Path.{◌≡◌}
use native.Mathlib.Omega.{arith}
use lib.ListN.{drop}
use Rattle.numbers.specs.BigEndian.{octet, quad}
use Rattle.rows.specs.Fields.{sequence, integer, fault}
use Rattle.text_rows.proofs.FieldText.{name-count, name_in, subtree-count, subtree-in, large-in, small-in}
use Rattle.text_rows.proofs.field_end.Goals as goal

-- nothing is wrong with the field, by its form

pub overflow_add-result : goal.overflow_add-result
overflow_add-result c =
    let name : let s = c.args in fault (sequence octet c.in-Name.field-0 c.in-Name.field-1) (drop s.at s.row.now) ≡ none = rw c.in-Name.is at c.requires in
    let s = c.args in omega (arith, name-count _ _ s.row.now s.at name)

pub bounds-row-at : goal.bounds-row-at
bounds-row-at c =
    let name : let s = c.args in fault (sequence octet c.in-Name.field-0 c.in-Name.field-1) (drop s.at s.row.now) ≡ none = rw c.in-Name.is at c.requires in
    let s = c.args in omega (arith, name-count _ _ s.row.now s.at name)

pub overflow_add-result-in-Name : goal.overflow_add-result-in-Name
overflow_add-result-in-Name c =
    let name : let s = c.args in fault (sequence octet c.in-Name.field-0 c.in-Name.field-1) (drop s.at s.row.now) ≡ none = rw c.in-Name.is at c.requires in
    let s = c.args in
    omega (arith, (name_in _ _ s.row.now s.at name _ c.wide.ensures.equal).inside)

pub overflow_add-result-in-Subtree : goal.overflow_add-result-in-Subtree
overflow_add-result-in-Subtree c =
    let subtree : let s = c.args in fault (sequence quad c.in-Subtree.field-0 c.in-Subtree.field-1) (drop s.at s.row.now) ≡ none = rw c.in-Subtree.is at c.requires in
    let s = c.args in omega (arith, subtree-count _ _ s.row.now s.at subtree)

pub bounds-row-at-in-Subtree : goal.bounds-row-at-in-Subtree
bounds-row-at-in-Subtree c =
    let subtree : let s = c.args in fault (sequence quad c.in-Subtree.field-0 c.in-Subtree.field-1) (drop s.at s.row.now) ≡ none = rw c.in-Subtree.is at c.requires in
    let s = c.args in omega (arith, subtree-count _ _ s.row.now s.at subtree)

pub overflow_add-result-in-Subtree-2 : goal.overflow_add-result-in-Subtree-2
overflow_add-result-in-Subtree-2 c =
    let subtree : let s = c.args in fault (sequence quad c.in-Subtree.field-0 c.in-Subtree.field-1) (drop s.at s.row.now) ≡ none = rw c.in-Subtree.is at c.requires in
    let s = c.args in
    omega (arith, (subtree-in _ _ s.row.now s.at subtree _ c.wide-in-Subtree.ensures.equal).inside)

pub overflow_add-result-in-Large : goal.overflow_add-result-in-Large
overflow_add-result-in-Large c =
    let large : let s = c.args in fault (integer quad c.in-Large.field-0 c.in-Large.field-1) (drop s.at s.row.now) ≡ none = rw c.in-Large.is at c.requires in
    let s = c.args in omega (arith, (large-in _ _ s.row.now s.at large).inside)

pub overflow_add-result-in-Small : goal.overflow_add-result-in-Small
overflow_add-result-in-Small c =
    let small : let s = c.args in fault (integer octet c.in-Small.field-0 c.in-Small.field-1) (drop s.at s.row.now) ≡ none = rw c.in-Small.is at c.requires in
    let s = c.args in omega (arith, (small-in _ _ s.row.now s.at small).inside)

pub returns-in-Name : goal.returns-in-Name
returns-in-Name c =
    let name : let s = c.args in fault (sequence octet c.in-Name.field-0 c.in-Name.field-1) (drop s.at s.row.now) ≡ none = rw c.in-Name.is at c.requires in
    let s = c.args in
    rw c.in-Name.is (name_in _ _ s.row.now s.at name _ c.wide.ensures.equal)

pub returns-in-Subtree : goal.returns-in-Subtree
returns-in-Subtree c =
    let subtree : let s = c.args in fault (sequence quad c.in-Subtree.field-0 c.in-Subtree.field-1) (drop s.at s.row.now) ≡ none = rw c.in-Subtree.is at c.requires in
    let s = c.args in
    rw c.in-Subtree.is (subtree-in _ _ s.row.now s.at subtree _ c.wide-in-Subtree.ensures.equal)

pub returns-in-Large : goal.returns-in-Large
returns-in-Large c =
    let large : let s = c.args in fault (integer quad c.in-Large.field-0 c.in-Large.field-1) (drop s.at s.row.now) ≡ none = rw c.in-Large.is at c.requires in
    let s = c.args in rw c.in-Large.is (large-in _ _ s.row.now s.at large)

pub returns-in-Small : goal.returns-in-Small
returns-in-Small c =
    let small : let s = c.args in fault (integer octet c.in-Small.field-0 c.in-Small.field-1) (drop s.at s.row.now) ≡ none = rw c.in-Small.is at c.requires in
    let s = c.args in rw c.in-Small.is (small-in _ _ s.row.now s.at small)
