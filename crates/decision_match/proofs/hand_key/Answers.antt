-- `decision_match::hand_key` meets its contract: nothing is wrong with the key of a whole row, so that it is judged to its end; and it is no longer than
-- the room. Assumes nothing.
use mathlib.Core.Path.{◌≡◌, sym, ap, ◌∙◌}
use Prim.Native.Nat.{◌-◌}
use native.Mathlib.Nat.{sub-zero}
use native.Mathlib.Omega.{arith}
use lib.ListN.{take, length-take}
use Rattle.numbers.specs.BigEndian.{Octets}
use Rattle.numbers.specs.Laid.{laid}
use Rattle.numbers.proofs.Laid.{laid-paste}
use Rattle.rows.specs.Fields.{span}
use Rattle.rows.specs.Rows.{key_fields, rest_fields}
use Rattle.rows.specs.Steps.{reached}
use Rattle.rows.proofs.Appends.{row-split, key_room}
use Rattle.rows.proofs.Walks.{fields-stop, fields-end}
use Rattle.rows.proofs.Keys.{front-short}
use Rattle.decision_match.proofs.hand_key.Goals as goal

-- where the call of `judge_front` stands

pub returns-in_default : goal.returns-in_default
returns-in_default c =
    let a = c.args in
    let g = c.in_default.is in
    let whole = rw (row-split a.t) at c.requires.whole in
    let e =
    sym g ∙ fields-stop (key_fields a.t) a.row.now 0 c.judge_front.ensures g (rest_fields a.t) 0 ∙ ap (λ o. reached o 0) whole in
    record { counts = cc; lays = cc }

pub slice_bounds-copy_in-end : goal.slice_bounds-copy_in-end
slice_bounds-copy_in-end c =
    let at-end : let a = c.args in span (key_fields a.t) a.row.now ≡ c.in-Ok.n = let a = c.args in omega (arith, fields-end (key_fields a.t) a.row.now 0 c.judge_front.ensures c.in-Ok.is) in
    omega (arith, at-end, key_room c.args.t c.args.row.now c.requires.whole)

pub copy_in-requires : goal.copy_in-requires
copy_in-requires c =
    let row-octets : Octets c.args.row.now = λ i. omega (arith, c.type_inv.row i) in
    let at-end : let a = c.args in span (key_fields a.t) a.row.now ≡ c.in-Ok.n = let a = c.args in omega (arith, fields-end (key_fields a.t) a.row.now 0 c.judge_front.ensures c.in-Ok.is) in
    omega (
      arith,
      at-end,
      length-take (c.in-Ok.n - 0) c.args.row.now,
      front-short c.args.t c.args.row.now row-octets c.requires.whole,
      c.requires.room,
    )

pub returns : goal.returns
returns c =
    let at-end : let a = c.args in span (key_fields a.t) a.row.now ≡ c.in-Ok.n = let a = c.args in omega (arith, fields-end (key_fields a.t) a.row.now 0 c.judge_front.ensures c.in-Ok.is) in
    let a = c.args in
    let n = c.in-Ok.n in record {
      counts = sym at-end;
      lays = c.copy_in.ensures
          ∙ laid-paste 0 (take (n - 0) a.row.now) a.key.now
          ∙ ap (λ m. laid 0 (take m a.row.now) a.key.now) (sub-zero n);
    }
