-- `call_sets::tell_position` meets its contract: the number, a space and the position are put one behind the other. Assumes nothing.
use mathlib.Core.List.{List, [], ◌∷◌}
use Prim.Native.Nat.{ℕ, ◌≤◌}
use native.Mathlib.Omega.{arith}
use lib.ListN.{length, length-append}
use Rattle.text_values.specs.Texts.{decimal_text}
use Rattle.text_values.proofs.Digits.{length-decimal}
use Rattle.text_values.proofs.Puts.{Onward, start as begun, room, step, last}
use Rattle.call_answers.specs.Answers.{answer_room}
use Rattle.call_plays.specs.Plays.{position_text}
use Rattle.call_sets.proofs.tell_position.Goals as goal

-- what is left behind the number, and behind the space

pub put_decimal-space-requires : goal.put_decimal-space-requires
put_decimal-space-requires c = omega (arith, length-decimal c.args.number, c.requires)

pub put_octet-next-requires : goal.put_octet-next-requires
put_octet-next-requires c =
    let text : List ℕ = position_text c.args.number c.args.position in
    let short : length (text) ≤ answer_room = let n = c.args.number in let p = c.args.position in omega (arith, length-append (decimal_text n) (32 ∷ decimal_text p), length-decimal n, length-decimal p) in
    let numbered : Onward (text) c.args.to c.args.out.now (32 ∷ decimal_text c.args.position) c.put_decimal-space.result c.put_decimal-space.new.out = step (decimal_text c.args.number) _ (begun (omega (arith, short, c.requires))) c.put_decimal-space.ensures in
    room (32 ∷ []) _ numbered

pub put_decimal-requires : goal.put_decimal-requires
put_decimal-requires c =
    let text : List ℕ = position_text c.args.number c.args.position in
    let short : length (text) ≤ answer_room = let n = c.args.number in let p = c.args.position in omega (arith, length-append (decimal_text n) (32 ∷ decimal_text p), length-decimal n, length-decimal p) in
    let numbered : Onward (text) c.args.to c.args.out.now (32 ∷ decimal_text c.args.position) c.put_decimal-space.result c.put_decimal-space.new.out = step (decimal_text c.args.number) _ (begun (omega (arith, short, c.requires))) c.put_decimal-space.ensures in
    let spaced : Onward (text) c.args.to c.args.out.now (decimal_text c.args.position) c.put_octet-next.result c.put_octet-next.new.out = step (32 ∷ []) _ numbered c.put_octet-next.ensures in
    (spaced).fits

pub returns : goal.returns
returns c =
    let text : List ℕ = position_text c.args.number c.args.position in
    let short : length (text) ≤ answer_room = let n = c.args.number in let p = c.args.position in omega (arith, length-append (decimal_text n) (32 ∷ decimal_text p), length-decimal n, length-decimal p) in
    let numbered : Onward (text) c.args.to c.args.out.now (32 ∷ decimal_text c.args.position) c.put_decimal-space.result c.put_decimal-space.new.out = step (decimal_text c.args.number) _ (begun (omega (arith, short, c.requires))) c.put_decimal-space.ensures in
    let spaced : Onward (text) c.args.to c.args.out.now (decimal_text c.args.position) c.put_octet-next.result c.put_octet-next.new.out = step (32 ∷ []) _ numbered c.put_octet-next.ensures in
    record { puts = last _ spaced c.put_decimal.ensures; short = short }
