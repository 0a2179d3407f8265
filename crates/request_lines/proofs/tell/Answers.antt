-- `request_lines::tell` meets its contract: number, space, answer and newline are put one behind the other, each where what is left still fits (`Told`).
-- Assumes nothing.
use mathlib.Core.List.{[], ◌∷◌}
use Rattle.text_values.specs.Texts.{decimal_text}
use Rattle.text_values.proofs.Puts.{room}
use Rattle.request_lines.proofs.Told.{left1, left2, left3, going0, going1, going2, going3, told-put}
use Rattle.request_lines.proofs.tell.Goals as goal

pub put_decimal-space-requires : goal.put_decimal-space-requires
put_decimal-space-requires c =
    let n = c.args.number in
    let a = c.args.answer in
    room (decimal_text n) (left1 n a) (going0 n a c.args.at c.args.out.now c.requires)

pub put_octet-behind-requires : goal.put_octet-behind-requires
put_octet-behind-requires c =
    let n = c.args.number in
    let a = c.args.answer in
    room (32 ∷ []) (left2 n a) (going1 n a c.args.at c.args.out.now c.requires c.put_decimal-space.ensures)

pub put_decimal-newline-requires : goal.put_decimal-newline-requires
put_decimal-newline-requires c =
    let n = c.args.number in
    let a = c.args.answer in
    room (decimal_text a) (left3 n a) (going2 n a c.args.at c.args.out.now c.requires c.put_decimal-space.ensures c.put_octet-behind.ensures)

pub put_octet-requires : goal.put_octet-requires
put_octet-requires c =
    room (10 ∷ []) []
    (going3 c.args.number c.args.answer c.args.at c.args.out.now c.requires c.put_decimal-space.ensures c.put_octet-behind.ensures
    c.put_decimal-newline.ensures)

pub returns : goal.returns
returns c =
    let r = told-put c.args.number c.args.answer c.args.at c.args.out.now c.requires c.put_decimal-space.ensures c.put_octet-behind.ensures
    c.put_decimal-newline.ensures c.put_octet.ensures in
    record { tells = r.0; within = r.1 }
