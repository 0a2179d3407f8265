-- `call_explains::tell_handed` meets its contract: the text is put part by part, the number and the rows that are shown; what is left of it still fits,
-- and with the view row nothing is left. Assumes nothing.
use Prim.Native.Nat.{ℕ, ◌≤◌}
use mathlib.Core.List.{List, ◌++◌}
use native.Mathlib.Omega.{arith}
use lib.ListN.{length}
use Rattle.answers.specs.Numbers.{answer_number}
use Rattle.rows.specs.declared.Table.TheVariants.{Mapping, Access, View}
use Rattle.explain_rules.specs.Explanation.{rooms_of}
use Rattle.text_values.specs.Texts.{decimal_text}
use Rattle.text_values.proofs.Puts.{Onward, start as begun, room, step, last}
use Rattle.call_answers.specs.Answers.{answer_room}
use Rattle.call_explains.specs.Texts.{shown_text, fields_in, handed_text}
use Rattle.call_explains.proofs.Shown.{shown-short, text-short}
use Rattle.call_explains.proofs.tell_handed.Goals as goal

-- the whole text, and its parts behind the number

-- what is left behind the number, behind the mapping, and behind the access row

pub put_decimal-first-requires : goal.put_decimal-first-requires
put_decimal-first-requires c =
    let number : List ℕ = decimal_text (answer_number c.args.e.answer) in
    let access : List ℕ = let a = c.args in shown_text Access (fields_in Access a.e.access a.access.now) in
    let view : List ℕ = let a = c.args in shown_text View (fields_in View a.e.view a.view.now) in
    let mapping : List ℕ = let a = c.args in shown_text Mapping (fields_in Mapping a.e.mapping a.mapping.now) in
    let text : List ℕ = let a = c.args in handed_text a.e (rooms_of a.mapping.now a.access.now a.view.now) in
    let short : length (text) ≤ answer_room = let a = c.args in text-short (answer_number a.e.answer) (fields_in Mapping a.e.mapping a.mapping.now) (fields_in Access a.e.access a.access.now) (fields_in View a.e.view a.view.now) (shown-short Mapping a.e.mapping a.mapping.now c.requires.mapping) (shown-short Access a.e.access a.access.now c.requires.access) (shown-short View a.e.view a.view.now c.requires.view) in
    let whole : Onward (text) c.args.at c.args.out.now (number ++ (mapping ++ (access ++ view))) c.args.at c.args.out.now = begun (omega (arith, short, c.requires.room)) in
    rw c.answer_number.ensures (room number (mapping ++ (access ++ view)) whole)

pub put_shown-second-requires : goal.put_shown-second-requires
put_shown-second-requires c =
    let mapping : List ℕ = let a = c.args in shown_text Mapping (fields_in Mapping a.e.mapping a.mapping.now) in
    let access : List ℕ = let a = c.args in shown_text Access (fields_in Access a.e.access a.access.now) in
    let view : List ℕ = let a = c.args in shown_text View (fields_in View a.e.view a.view.now) in
    let text : List ℕ = let a = c.args in handed_text a.e (rooms_of a.mapping.now a.access.now a.view.now) in
    let number : List ℕ = decimal_text (answer_number c.args.e.answer) in
    let short : length (text) ≤ answer_room = let a = c.args in text-short (answer_number a.e.answer) (fields_in Mapping a.e.mapping a.mapping.now) (fields_in Access a.e.access a.access.now) (fields_in View a.e.view a.view.now) (shown-short Mapping a.e.mapping a.mapping.now c.requires.mapping) (shown-short Access a.e.access a.access.now c.requires.access) (shown-short View a.e.view a.view.now c.requires.view) in
    let whole : Onward (text) c.args.at c.args.out.now (number ++ (mapping ++ (access ++ view))) c.args.at c.args.out.now = begun (omega (arith, short, c.requires.room)) in
    let numbered : Onward (text) c.args.at c.args.out.now (mapping ++ (access ++ view)) c.put_decimal-first.result c.put_decimal-first.new.out = step number _ whole (rw c.answer_number.ensures at c.put_decimal-first.ensures) in
    record { whole = c.requires.mapping; room = room mapping (access ++ view) numbered }

pub put_shown-third-requires : goal.put_shown-third-requires
put_shown-third-requires c =
    let access : List ℕ = let a = c.args in shown_text Access (fields_in Access a.e.access a.access.now) in
    let view : List ℕ = let a = c.args in shown_text View (fields_in View a.e.view a.view.now) in
    let text : List ℕ = let a = c.args in handed_text a.e (rooms_of a.mapping.now a.access.now a.view.now) in
    let mapping : List ℕ = let a = c.args in shown_text Mapping (fields_in Mapping a.e.mapping a.mapping.now) in
    let number : List ℕ = decimal_text (answer_number c.args.e.answer) in
    let short : length (text) ≤ answer_room = let a = c.args in text-short (answer_number a.e.answer) (fields_in Mapping a.e.mapping a.mapping.now) (fields_in Access a.e.access a.access.now) (fields_in View a.e.view a.view.now) (shown-short Mapping a.e.mapping a.mapping.now c.requires.mapping) (shown-short Access a.e.access a.access.now c.requires.access) (shown-short View a.e.view a.view.now c.requires.view) in
    let whole : Onward (text) c.args.at c.args.out.now (number ++ (mapping ++ (access ++ view))) c.args.at c.args.out.now = begun (omega (arith, short, c.requires.room)) in
    let numbered : Onward (text) c.args.at c.args.out.now (mapping ++ (access ++ view)) c.put_decimal-first.result c.put_decimal-first.new.out = step number _ whole (rw c.answer_number.ensures at c.put_decimal-first.ensures) in
    let mapped : Onward (text) c.args.at c.args.out.now (access ++ view) c.put_shown-second.result c.put_shown-second.new.out = step mapping _ numbered c.put_shown-second.ensures in
    record { whole = c.requires.access; room = room access view mapped }

pub put_shown-requires : goal.put_shown-requires
put_shown-requires c =
    let text : List ℕ = let a = c.args in handed_text a.e (rooms_of a.mapping.now a.access.now a.view.now) in
    let view : List ℕ = let a = c.args in shown_text View (fields_in View a.e.view a.view.now) in
    let access : List ℕ = let a = c.args in shown_text Access (fields_in Access a.e.access a.access.now) in
    let mapping : List ℕ = let a = c.args in shown_text Mapping (fields_in Mapping a.e.mapping a.mapping.now) in
    let number : List ℕ = decimal_text (answer_number c.args.e.answer) in
    let short : length (text) ≤ answer_room = let a = c.args in text-short (answer_number a.e.answer) (fields_in Mapping a.e.mapping a.mapping.now) (fields_in Access a.e.access a.access.now) (fields_in View a.e.view a.view.now) (shown-short Mapping a.e.mapping a.mapping.now c.requires.mapping) (shown-short Access a.e.access a.access.now c.requires.access) (shown-short View a.e.view a.view.now c.requires.view) in
    let whole : Onward (text) c.args.at c.args.out.now (number ++ (mapping ++ (access ++ view))) c.args.at c.args.out.now = begun (omega (arith, short, c.requires.room)) in
    let numbered : Onward (text) c.args.at c.args.out.now (mapping ++ (access ++ view)) c.put_decimal-first.result c.put_decimal-first.new.out = step number _ whole (rw c.answer_number.ensures at c.put_decimal-first.ensures) in
    let mapped : Onward (text) c.args.at c.args.out.now (access ++ view) c.put_shown-second.result c.put_shown-second.new.out = step mapping _ numbered c.put_shown-second.ensures in
    let accessed : Onward (text) c.args.at c.args.out.now (view) c.put_shown-third.result c.put_shown-third.new.out = step access _ mapped c.put_shown-third.ensures in
    record { whole = c.requires.view; room = accessed.fits }

pub returns : goal.returns
returns c =
    let view : List ℕ = let a = c.args in shown_text View (fields_in View a.e.view a.view.now) in
    let text : List ℕ = let a = c.args in handed_text a.e (rooms_of a.mapping.now a.access.now a.view.now) in
    let access : List ℕ = let a = c.args in shown_text Access (fields_in Access a.e.access a.access.now) in
    let mapping : List ℕ = let a = c.args in shown_text Mapping (fields_in Mapping a.e.mapping a.mapping.now) in
    let number : List ℕ = decimal_text (answer_number c.args.e.answer) in
    let short : length (text) ≤ answer_room = let a = c.args in text-short (answer_number a.e.answer) (fields_in Mapping a.e.mapping a.mapping.now) (fields_in Access a.e.access a.access.now) (fields_in View a.e.view a.view.now) (shown-short Mapping a.e.mapping a.mapping.now c.requires.mapping) (shown-short Access a.e.access a.access.now c.requires.access) (shown-short View a.e.view a.view.now c.requires.view) in
    let whole : Onward (text) c.args.at c.args.out.now (number ++ (mapping ++ (access ++ view))) c.args.at c.args.out.now = begun (omega (arith, short, c.requires.room)) in
    let numbered : Onward (text) c.args.at c.args.out.now (mapping ++ (access ++ view)) c.put_decimal-first.result c.put_decimal-first.new.out = step number _ whole (rw c.answer_number.ensures at c.put_decimal-first.ensures) in
    let mapped : Onward (text) c.args.at c.args.out.now (access ++ view) c.put_shown-second.result c.put_shown-second.new.out = step mapping _ numbered c.put_shown-second.ensures in
    let accessed : Onward (text) c.args.at c.args.out.now (view) c.put_shown-third.result c.put_shown-third.new.out = step access _ mapped c.put_shown-third.ensures in
    record { puts = last view accessed c.put_shown.ensures; short = short }
