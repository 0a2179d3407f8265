-- The key, a space and the type are put part by part: what is left of the text still fits, and with the type nothing is left. Assumes nothing.
use mathlib.Core.List.{List, [], ◌∷◌}
use Prim.Native.Nat.{ℕ, ◌≤◌}
use native.Mathlib.Omega.{arith}
use lib.ListN.{length}
use Rattle.rows.specs.declared.Table.TheVariants.{View}
use Rattle.rows.specs.Fields.{values}
use Rattle.rows.specs.Rows.{key_fields}
use Rattle.text_values.specs.Texts.{decimal_text}
use Rattle.text_values.proofs.Puts.{Onward, start as begun, room, step, last}
use Rattle.text_rows.specs.RowText.{key_text}
use Rattle.call_answers.specs.Answers.{answer_room}
use Rattle.call_matches.specs.Texts.{typed_text}
use Rattle.call_matches.proofs.Matched.{typed-short}
use Rattle.call_matches.proofs.tell_typed.Goals as goal

pub put_entry-space-requires : goal.put_entry-space-requires
put_entry-space-requires c =
    let fields : List (List ℕ) = values (key_fields View) c.args.key.now in
    let short : length (typed_text (fields) c.args.family_type) ≤ answer_room = typed-short c.args.key.now c.args.family_type (λ i. omega (arith, c.shared_slice_known-1.given i)) c.requires.legal in
    let whole : let a = c.args in Onward (typed_text (fields) a.family_type) a.at a.out.now (typed_text (fields) a.family_type) a.at a.out.now = begun (omega (arith, short, c.requires.room)) in
    record { legal = c.requires.legal; room = room (key_text View fields) _ whole }

pub put_octet-next-requires : goal.put_octet-next-requires
put_octet-next-requires c =
    let fields : List (List ℕ) = values (key_fields View) c.args.key.now in
    let short : length (typed_text (fields) c.args.family_type) ≤ answer_room = typed-short c.args.key.now c.args.family_type (λ i. omega (arith, c.shared_slice_known-1.given i)) c.requires.legal in
    let whole : let a = c.args in Onward (typed_text (fields) a.family_type) a.at a.out.now (typed_text (fields) a.family_type) a.at a.out.now = begun (omega (arith, short, c.requires.room)) in
    let keyed : let a = c.args in Onward (typed_text (fields) a.family_type) a.at a.out.now (32 ∷ decimal_text a.family_type) c.put_entry-space.result c.put_entry-space.new.out = step (key_text View fields) _ whole c.put_entry-space.ensures in
    room (32 ∷ []) _ keyed

pub put_decimal-requires : goal.put_decimal-requires
put_decimal-requires c =
    let fields : List (List ℕ) = values (key_fields View) c.args.key.now in
    let short : length (typed_text (fields) c.args.family_type) ≤ answer_room = typed-short c.args.key.now c.args.family_type (λ i. omega (arith, c.shared_slice_known-1.given i)) c.requires.legal in
    let whole : let a = c.args in Onward (typed_text (fields) a.family_type) a.at a.out.now (typed_text (fields) a.family_type) a.at a.out.now = begun (omega (arith, short, c.requires.room)) in
    let keyed : let a = c.args in Onward (typed_text (fields) a.family_type) a.at a.out.now (32 ∷ decimal_text a.family_type) c.put_entry-space.result c.put_entry-space.new.out = step (key_text View fields) _ whole c.put_entry-space.ensures in
    let spaced : let a = c.args in Onward (typed_text (fields) a.family_type) a.at a.out.now (decimal_text a.family_type) c.put_octet-next.result c.put_octet-next.new.out = step (32 ∷ []) _ keyed c.put_octet-next.ensures in
    (spaced).fits

pub returns : goal.returns
returns c =
    let fields : List (List ℕ) = values (key_fields View) c.args.key.now in
    let short : length (typed_text (fields) c.args.family_type) ≤ answer_room = typed-short c.args.key.now c.args.family_type (λ i. omega (arith, c.shared_slice_known-1.given i)) c.requires.legal in
    let whole : let a = c.args in Onward (typed_text (fields) a.family_type) a.at a.out.now (typed_text (fields) a.family_type) a.at a.out.now = begun (omega (arith, short, c.requires.room)) in
    let keyed : let a = c.args in Onward (typed_text (fields) a.family_type) a.at a.out.now (32 ∷ decimal_text a.family_type) c.put_entry-space.result c.put_entry-space.new.out = step (key_text View fields) _ whole c.put_entry-space.ensures in
    let spaced : let a = c.args in Onward (typed_text (fields) a.family_type) a.at a.out.now (decimal_text a.family_type) c.put_octet-next.result c.put_octet-next.new.out = step (32 ∷ []) _ keyed c.put_octet-next.ensures in
    record { puts = last _ spaced c.put_decimal.ensures; short = short }
