-- `edit_sets::principal_set` meets its contract: 6, 19 and the caller's 7, each about no edit; the first refusal of an edit; room; and otherwise the removals
-- and then the other edits are made (`Sets`). Assumes nothing.
use mathlib.Core.Path.{◌≡◌, sym, ◌∙◌}
use mathlib.Core.Bool.{true}
use Prim.Native.Nat.{◌≤◌}
use native.Mathlib.Omega.{arith}
use Rattle.numbers.specs.BigEndian.{Octets}
use Rattle.rows.specs.declared.Shape.TheVariants.{Key}
use Rattle.image_layout.specs.Layout.{layout_of}
use Rattle.image.specs.Store.{is_sound}
use Rattle.image.proofs.Surveys.{store_laid, store-bad}
use Rattle.edit_rules.specs.Edits.{Caller, caller_of, legal_caller}
use Rattle.edit_rows.proofs.Stores.{sound-laid}
use Rattle.set_rules.specs.Sets.{most_edits, is_set}
use Rattle.set_rules.specs.Handed.{edits_of}
use Rattle.set_rules.specs.Made.{of_shape}
use Rattle.set_rules.proofs.Promises.{set-unsound-as, makes-sound}
use Rattle.edit_sets.proofs.Sets as sets
use Rattle.edit_sets.proofs.principal_set.Goals as goal

pub returns-in_default : goal.returns-in_default
returns-in_default c =
    let caller : Caller = caller_of c.args.security_model c.args.security_name.now c.args.security_level in
    let a = c.args in
    set-unsound-as caller (edits_of a.set a.bytes.now) a.store.now
    (store-bad _ (sym c.in_default.is ∙ c.survey_store.ensures)) c.refused.ensures

-- the store is sound, and its layout known

pub returns-then-not-is_set : goal.returns-then-not-is_set
returns-then-not-is_set c =
    let caller : Caller = caller_of c.args.security_model c.args.security_name.now c.args.security_level in
    let handed-bytes : Octets c.args.bytes.now = λ i. omega (arith, c.type_inv.bytes i) in
    let laid : let w = c.args.store.now in (is_sound w ≡ true) × (c.in-Ok.l ≡ layout_of w) = store_laid c.args.store.now (sym c.in-Ok.is ∙ c.survey_store.ensures) in
    let a = c.args in
    sets.no-set caller a.set a.bytes.now handed-bytes a.store.now (laid).0
    (sym c.is_set.ensures ∙ c.if-not-is_set.true) c.refused-then-not-is_set.ensures

pub returns-then-not-is_caller : goal.returns-then-not-is_caller
returns-then-not-is_caller c =
    let caller : Caller = caller_of c.args.security_model c.args.security_name.now c.args.security_level in
    let handed-bytes : Octets c.args.bytes.now = λ i. omega (arith, c.type_inv.bytes i) in
    let laid : let w = c.args.store.now in (is_sound w ≡ true) × (c.in-Ok.l ≡ layout_of w) = store_laid c.args.store.now (sym c.in-Ok.is ∙ c.survey_store.ensures) in
    let is-a-set : let a = c.args in is_set (edits_of a.set a.bytes.now) ≡ true = sym c.is_set.ensures ∙ c.if-not-is_set.false in
    let a = c.args in
    sets.no-caller caller a.set a.bytes.now handed-bytes a.store.now (laid).0 is-a-set
    (sym c.is_caller.ensures ∙ c.if-not-is_caller.true) c.refused-then-not-is_caller.ensures

pub standing_of-standing-requires : goal.standing_of-standing-requires
standing_of-standing-requires c =
    let laid : let w = c.args.store.now in (is_sound w ≡ true) × (c.in-Ok.l ≡ layout_of w) = store_laid c.args.store.now (sym c.in-Ok.is ∙ c.survey_store.ensures) in
    sound-laid (laid).0 (laid).1

pub judge_edits-judged-requires : goal.judge_edits-judged-requires
judge_edits-judged-requires c =
    let laid : let w = c.args.store.now in (is_sound w ≡ true) × (c.in-Ok.l ≡ layout_of w) = store_laid c.args.store.now (sym c.in-Ok.is ∙ c.survey_store.ensures) in
    let caller : Caller = caller_of c.args.security_model c.args.security_name.now c.args.security_level in
    let handed-bytes : Octets c.args.bytes.now = λ i. omega (arith, c.type_inv.bytes i) in
    let is-a-set : let a = c.args in is_set (edits_of a.set a.bytes.now) ≡ true = sym c.is_set.ensures ∙ c.if-not-is_set.false in
    let few-at : c.args.set.count ≤ most_edits = let a = c.args in sets.few caller a.set a.bytes.now handed-bytes a.store.now (laid).0 is-a-set in
    record { few = few-at; judging = record { sound = (laid).0; laid = (laid).1; stands = c.standing_of-standing.ensures.lies } }

pub returns-in_default-answer : goal.returns-in_default-answer
returns-in_default-answer c =
    let caller : Caller = caller_of c.args.security_model c.args.security_name.now c.args.security_level in
    let handed-bytes : Octets c.args.bytes.now = λ i. omega (arith, c.type_inv.bytes i) in
    let laid : let w = c.args.store.now in (is_sound w ≡ true) × (c.in-Ok.l ≡ layout_of w) = store_laid c.args.store.now (sym c.in-Ok.is ∙ c.survey_store.ensures) in
    let is-a-set : let a = c.args in is_set (edits_of a.set a.bytes.now) ≡ true = sym c.is_set.ensures ∙ c.if-not-is_set.false in
    let is-legal : legal_caller (caller) ≡ true = sym c.is_caller.ensures ∙ c.if-not-is_caller.false in
    let a = c.args in
    sets.refused caller a.set a.bytes.now handed-bytes a.store.now (laid).0 is-a-set is-legal (laid).1
    c.standing_of-standing.ensures c.judge_edits-judged.ensures (c.in_default-answer.not-Ok tt)

pub judge_room-room-requires : goal.judge_room-room-requires
judge_room-room-requires c =
    let caller : Caller = caller_of c.args.security_model c.args.security_name.now c.args.security_level in
    let handed-bytes : Octets c.args.bytes.now = λ i. omega (arith, c.type_inv.bytes i) in
    let laid : let w = c.args.store.now in (is_sound w ≡ true) × (c.in-Ok.l ≡ layout_of w) = store_laid c.args.store.now (sym c.in-Ok.is ∙ c.survey_store.ensures) in
    let is-a-set : let a = c.args in is_set (edits_of a.set a.bytes.now) ≡ true = sym c.is_set.ensures ∙ c.if-not-is_set.false in
    let is-legal : legal_caller (caller) ≡ true = sym c.is_caller.ensures ∙ c.if-not-is_caller.false in
    let few-at : c.args.set.count ≤ most_edits = let a = c.args in sets.few caller a.set a.bytes.now handed-bytes a.store.now (laid).0 is-a-set in
    let a = c.args in
    record { few = few-at; limited = sets.limited caller a.set a.bytes.now handed-bytes a.store.now (laid).0 is-a-set is-legal (laid).1 }

pub returns-in_default-answer-2 : goal.returns-in_default-answer-2
returns-in_default-answer-2 c =
    let caller : Caller = caller_of c.args.security_model c.args.security_name.now c.args.security_level in
    let handed-bytes : Octets c.args.bytes.now = λ i. omega (arith, c.type_inv.bytes i) in
    let laid : let w = c.args.store.now in (is_sound w ≡ true) × (c.in-Ok.l ≡ layout_of w) = store_laid c.args.store.now (sym c.in-Ok.is ∙ c.survey_store.ensures) in
    let is-a-set : let a = c.args in is_set (edits_of a.set a.bytes.now) ≡ true = sym c.is_set.ensures ∙ c.if-not-is_set.false in
    let is-legal : legal_caller (caller) ≡ true = sym c.is_caller.ensures ∙ c.if-not-is_caller.false in
    let a = c.args in
    sets.full caller a.set a.bytes.now handed-bytes a.store.now (laid).0 is-a-set is-legal (laid).1
    c.standing_of-standing.ensures c.judge_edits-judged.ensures c.in-Ok-answer.is c.judge_room-room.ensures (c.in_default-answer-2.not-Ok tt)

pub make_all-requires : goal.make_all-requires
make_all-requires c =
    let laid : let w = c.args.store.now in (is_sound w ≡ true) × (c.in-Ok.l ≡ layout_of w) = store_laid c.args.store.now (sym c.in-Ok.is ∙ c.survey_store.ensures) in
    let caller : Caller = caller_of c.args.security_model c.args.security_name.now c.args.security_level in
    let handed-bytes : Octets c.args.bytes.now = λ i. omega (arith, c.type_inv.bytes i) in
    let is-a-set : let a = c.args in is_set (edits_of a.set a.bytes.now) ≡ true = sym c.is_set.ensures ∙ c.if-not-is_set.false in
    let few-at : c.args.set.count ≤ most_edits = let a = c.args in sets.few caller a.set a.bytes.now handed-bytes a.store.now (laid).0 is-a-set in
    record { few = few-at; sound = (laid).0 }

pub make_all-requires-2 : goal.make_all-requires-2
make_all-requires-2 c =
    let laid : let w = c.args.store.now in (is_sound w ≡ true) × (c.in-Ok.l ≡ layout_of w) = store_laid c.args.store.now (sym c.in-Ok.is ∙ c.survey_store.ensures) in
    let caller : Caller = caller_of c.args.security_model c.args.security_name.now c.args.security_level in
    let handed-bytes : Octets c.args.bytes.now = λ i. omega (arith, c.type_inv.bytes i) in
    let is-a-set : let a = c.args in is_set (edits_of a.set a.bytes.now) ≡ true = sym c.is_set.ensures ∙ c.if-not-is_set.false in
    let few-at : c.args.set.count ≤ most_edits = let a = c.args in sets.few caller a.set a.bytes.now handed-bytes a.store.now (laid).0 is-a-set in
    let a = c.args in
    record { few = few-at; sound = makes-sound (of_shape Key (edits_of a.set a.bytes.now)) a.store.now _ c.make_all.ensures laid.0 }

pub returns : goal.returns
returns c =
    let caller : Caller = caller_of c.args.security_model c.args.security_name.now c.args.security_level in
    let handed-bytes : Octets c.args.bytes.now = λ i. omega (arith, c.type_inv.bytes i) in
    let laid : let w = c.args.store.now in (is_sound w ≡ true) × (c.in-Ok.l ≡ layout_of w) = store_laid c.args.store.now (sym c.in-Ok.is ∙ c.survey_store.ensures) in
    let is-a-set : let a = c.args in is_set (edits_of a.set a.bytes.now) ≡ true = sym c.is_set.ensures ∙ c.if-not-is_set.false in
    let is-legal : legal_caller (caller) ≡ true = sym c.is_caller.ensures ∙ c.if-not-is_caller.false in
    let a = c.args in
    sets.accepted caller a.set a.bytes.now handed-bytes a.store.now (laid).0 is-a-set is-legal (laid).1
    c.standing_of-standing.ensures c.judge_edits-judged.ensures c.in-Ok-answer.is c.judge_room-room.ensures
    c.in-Ok-answer-2.is _ _ c.make_all.ensures c.make_all-2.ensures
