-- `call_explains::put_shown` meets its contract: of a row that is shown a space and its text are put, of none nothing (`Shown`). Assumes nothing.
use mathlib.Core.Path.{◌≡◌}
use mathlib.Core.List.{List, [], ◌∷◌}
use Prim.Native.Nat.{ℕ, ◌-◌}
use lib.ListN.{take}
use Rattle.rows.specs.Fields.{values}
use Rattle.rows.specs.Rows.{row_fields}
use Rattle.text_values.proofs.Puts.{Onward, start as begun, room, step, last}
use Rattle.text_rows.specs.RowText.{row_text}
use Rattle.call_explains.specs.Texts.{shown_text, fields_in}
use Rattle.call_explains.proofs.Shown.{row_in, row-sound, row-text, none_told}
use Rattle.call_explains.proofs.put_shown.Goals as goal

-- what is put of a row behind the space

pub returns-in_default : goal.returns-in_default
returns-in_default c = let a = c.args in none_told a.t a.room.now c.in_default.is

pub put_octet-next-requires : goal.put_octet-next-requires
put_octet-next-requires c =
    let text : List ℕ = let a = c.args in row_text a.t (values (row_fields a.t) (take (c.in-Some.n - 0) a.room.now)) in
    let text_is : let a = c.args in shown_text a.t (fields_in a.t a.shown a.room.now) ≡ 32 ∷ text = let a = c.args in row-text a.t a.room.now c.in-Some.is in
    let whole : let a = c.args in Onward (32 ∷ text) a.at a.out.now (32 ∷ text) a.at a.out.now = begun (rw text_is at c.requires.room) in
    room (32 ∷ []) text whole

-- where the octet was put

pub put_entry-requires : goal.put_entry-requires
put_entry-requires c =
    let text : List ℕ = let a = c.args in row_text a.t (values (row_fields a.t) (take (c.in-Some.n - 0) a.room.now)) in
    let text_is : let a = c.args in shown_text a.t (fields_in a.t a.shown a.room.now) ≡ 32 ∷ text = let a = c.args in row-text a.t a.room.now c.in-Some.is in
    let whole : let a = c.args in Onward (32 ∷ text) a.at a.out.now (32 ∷ text) a.at a.out.now = begun (rw text_is at c.requires.room) in
    let spaced : let a = c.args in Onward (32 ∷ text) a.at a.out.now (text) c.put_octet-next.result c.put_octet-next.new.out = step (32 ∷ []) text whole c.put_octet-next.ensures in
    record { legal = row-sound c.args.t c.args.room.now c.in-Some.is c.requires.whole; room = (spaced).fits }

pub returns : goal.returns
returns c =
    let text : List ℕ = let a = c.args in row_text a.t (values (row_fields a.t) (take (c.in-Some.n - 0) a.room.now)) in
    let text_is : let a = c.args in shown_text a.t (fields_in a.t a.shown a.room.now) ≡ 32 ∷ text = let a = c.args in row-text a.t a.room.now c.in-Some.is in
    let whole : let a = c.args in Onward (32 ∷ text) a.at a.out.now (32 ∷ text) a.at a.out.now = begun (rw text_is at c.requires.room) in
    let spaced : let a = c.args in Onward (32 ∷ text) a.at a.out.now (text) c.put_octet-next.result c.put_octet-next.new.out = step (32 ∷ []) text whole c.put_octet-next.ensures in
    rw text_is (last text spaced c.put_entry.ensures)

pub slice_bounds-put_entry-end : goal.slice_bounds-put_entry-end
slice_bounds-put_entry-end c = (row_in c.args.t c.args.room.now c.in-Some.is c.requires.whole).inside
