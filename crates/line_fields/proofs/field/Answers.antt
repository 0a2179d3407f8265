-- `line_fields::field` meets its contract: in each arm the kind is known, and so are its buffer and what it says. Assumes nothing.
use mathlib.Core.Bool.{true, false}
use mathlib.Core.List.{List}
use mathlib.Core.Path.{sym, ap, ◌∙◌}
use Prim.Native.Nat.{ℕ, ◌*◌}
use native.Mathlib.Omega.{arith}
use lib.ListN.{length}
use Rattle.edit_rules.specs.declared.Operation.TheVariants.{Remove}
use Rattle.text_words.specs.Words.{between, hex_octets, dotted}
use Rattle.text_words.proofs.WordsFrom.{WordAt, word-missing, word-found}
use Rattle.line_fields.specs.Kinds.{number, kind_said}
use Rattle.line_fields.specs.Buffers.{buffers, kind_front}
use Rattle.line_fields.proofs.FieldSlots.{bytes-roomy, none_said, none-lays, word_room, behind-roomy, word_read}
use Rattle.line_fields.proofs.FieldSlots.{entry-finds, edit-finds, edit-lays}
use Rattle.line_fields.proofs.field.Goals as goal

-- the first word

pub returns-in_err-end : goal.returns-in_err-end
returns-in_err-end c =
    let s = c.args in
    let e = word-missing _ _ (sym c.word_at.ensures ∙ c.in_err-end.was) in
    rw c.from_residual.ensures (record { finds = none_said s.k s.at s.line.now e; lays = none-lays s.k s.at s.line.now s.bytes.now s.parts.now e })

pub slice_bounds-word-count : goal.slice_bounds-word-count
slice_bounds-word-count c =
    let found : WordAt c.args.at c.args.line.now c.in_ok-end.end = word-found _ _ (sym c.word_at.ensures ∙ c.in_ok-end.was) in
    (found).forward

pub slice_bounds-word-start : goal.slice_bounds-word-start
slice_bounds-word-start c =
    let found : WordAt c.args.at c.args.line.now c.in_ok-end.end = word-found _ _ (sym c.word_at.ensures ∙ c.in_ok-end.was) in
    (found).forward

pub slice_bounds-word-end : goal.slice_bounds-word-end
slice_bounds-word-end c =
    let found : WordAt c.args.at c.args.line.now c.in_ok-end.end = word-found _ _ (sym c.word_at.ensures ∙ c.in_ok-end.was) in
    (found).inside

pub overflow_add-next : goal.overflow_add-next
overflow_add-next c =
    let found : WordAt c.args.at c.args.line.now c.in_ok-end.end = word-found _ _ (sym c.word_at.ensures ∙ c.in_ok-end.was) in
    omega (arith, (found).inside)

pub number-requires : goal.number-requires
number-requires c =
    let found : WordAt c.args.at c.args.line.now c.in_ok-end.end = word-found _ _ (sym c.word_at.ensures ∙ c.in_ok-end.was) in
    omega (arith, word_room found true c.requires)

pub hex_octets-requires : goal.hex_octets-requires
hex_octets-requires c =
    let found : WordAt c.args.at c.args.line.now c.in_ok-end.end = word-found _ _ (sym c.word_at.ensures ∙ c.in_ok-end.was) in
    omega (arith, word_room found false c.requires)

pub dotted-requires : goal.dotted-requires
dotted-requires c =
    let found : WordAt c.args.at c.args.line.now c.in_ok-end.end = word-found _ _ (sym c.word_at.ensures ∙ c.in_ok-end.was) in
    omega (arith, word_room found true c.requires)

pub entry-requires : goal.entry-requires
entry-requires c = bytes-roomy c.requires

pub edit-requires : goal.edit-requires
edit-requires c =
    let found : WordAt c.args.at c.args.line.now c.in_ok-end.end = word-found _ _ (sym c.word_at.ensures ∙ c.in_ok-end.was) in
    behind-roomy found c.requires

-- the word

pub returns-in-Number : goal.returns-in-Number
unfolding kind_said kind_front
returns-in-Number c =
    let found : WordAt c.args.at c.args.line.now c.in_ok-end.end = word-found _ _ (sym c.word_at.ensures ∙ c.in_ok-end.was) in
    let s = c.args in
    let r = word_read found true number c.number.result 1 s.bytes.now s.parts.now _ c.number.ensures (omega arith) in
    record { finds = rw (c.in-Number.is, c.one_word.ensures) r.0; lays = rw c.in-Number.is r.1 }

pub returns-in-Name : goal.returns-in-Name
unfolding kind_said kind_front
returns-in-Name c =
    let found : WordAt c.args.at c.args.line.now c.in_ok-end.end = word-found _ _ (sym c.word_at.ensures ∙ c.in_ok-end.was) in
    let word : List ℕ = between c.args.at c.in_ok-end.end c.args.line.now in
    let s = c.args in
    let r = word_read found false hex_octets c.hex_octets.result (length word) s.bytes.now s.parts.now _ c.hex_octets.ensures (omega arith) in
    record { finds = rw (c.in-Name.is, c.one_word-in-Name.ensures) r.0; lays = rw c.in-Name.is r.1 }

pub returns-in-Identifier : goal.returns-in-Identifier
unfolding kind_said kind_front
returns-in-Identifier c =
    let found : WordAt c.args.at c.args.line.now c.in_ok-end.end = word-found _ _ (sym c.word_at.ensures ∙ c.in_ok-end.was) in
    let word : List ℕ = between c.args.at c.in_ok-end.end c.args.line.now in
    let s = c.args in
    let r = word_read found true dotted c.dotted.result (length word) s.bytes.now s.parts.now _ c.dotted.ensures (omega arith) in
    record { finds = rw (c.in-Identifier.is, c.one_word-in-Identifier.ensures) r.0; lays = rw c.in-Identifier.is r.1 }

pub returns-in-Key : goal.returns-in-Key
unfolding kind_said kind_front
returns-in-Key c =
    let s = c.args in
    rw c.in-Key.is record { finds = entry-finds Remove c.entry.result _ _ _ c.entry.ensures.enters; lays = ap (λ u. buffers u s.parts.now) c.entry.ensures.lays }

pub returns-in-Edit : goal.returns-in-Edit
unfolding kind_said
returns-in-Edit c =
    let found : WordAt c.args.at c.args.line.now c.in_ok-end.end = word-found _ _ (sym c.word_at.ensures ∙ c.in_ok-end.was) in
    let s = c.args in
    rw c.in-Edit.is record { finds = edit-finds found c.edit.result _ c.edit.ensures.finds; lays = ap (λ u. buffers u s.parts.now) (edit-lays found (4 * s.at) s.bytes.now c.edit.ensures.lays) }
