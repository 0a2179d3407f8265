-- `set_words::read_caller` meets its contract: three fields are read one after the other, and the level's, a number, leaves the name where it lies.
-- Assumes nothing.
use mathlib.Core.List.{[], ◌∷◌}
use mathlib.Core.Path.{◌≡◌, sym, ap, ◌∙◌}
use lib.ListN.{length}
use Rattle.line_fields.specs.declared.Kind.TheVariants.{Number, Name}
use Rattle.line_fields.specs.Buffers.{buffers, fields_into}
use Rattle.line_fields.proofs.Buffers.{into-stop, into_next}
use Rattle.text_words.specs.Words.{words_from}
use Rattle.set_words.specs.Buffers.{caller_kinds}
use Rattle.set_words.proofs.Fields.{Reads, field-none, field-reads}
use Rattle.set_words.proofs.Callers.{number-within, no-model, no_name, no-level, called}
use Rattle.set_words.proofs.read_caller.Goals as goal

-- ---- the model

pub returns-in_err-m : goal.returns-in_err-m
returns-in_err-m c =
    let e = field-none _ _ _ c.in_err-m.was c.field.ensures.finds in
    rw c.from_residual.ensures record { calls = no-model _ e; lays = sym (into-stop Number _ c.args.at c.args.line.now c.requires.at_in _ c.field.ensures.lays e) }

pub number_in-model-requires : goal.number_in-model-requires
number_in-model-requires c =
    let model : Reads Number c.in_ok-m.m c.in_ok-m.name_at c.args.at c.args.line.now c.field.new.bytes c.field.new.parts = field-reads Number c.requires c.field.ensures.lays c.in_ok-m.was c.field.ensures.finds c.field.auto.bytes c.field.auto.parts in
    number-within model

-- ---- the name

pub field-requires-2 : goal.field-requires-2
field-requires-2 c =
    let model : Reads Number c.in_ok-m.m c.in_ok-m.name_at c.args.at c.args.line.now c.field.new.bytes c.field.new.parts = field-reads Number c.requires c.field.ensures.lays c.in_ok-m.was c.field.ensures.finds c.field.auto.bytes c.field.auto.parts in
    (model).lent

pub returns-in_err-name : goal.returns-in_err-name
returns-in_err-name c =
    let model : Reads Number c.in_ok-m.m c.in_ok-m.name_at c.args.at c.args.line.now c.field.new.bytes c.field.new.parts = field-reads Number c.requires c.field.ensures.lays c.in_ok-m.was c.field.ensures.finds c.field.auto.bytes c.field.auto.parts in
    let model-into : let s = c.args in fields_into caller_kinds s.line.now (words_from s.at s.line.now) (buffers s.bytes.now s.parts.now) ≡ fields_into (Name ∷ Number ∷ []) s.line.now (words_from c.in_ok-m.name_at s.line.now) (buffers c.field.new.bytes c.field.new.parts) = into_next Number _ c.args.at c.args.line.now c.requires.at_in _ c.field.ensures.lays (model).said in
    let e = field-none _ _ _ c.in_err-name.was c.field-2.ensures.finds in
    rw c.from_residual-in_err-name.ensures record { calls = no_name model e; lays = sym (model-into ∙ into-stop Name _ _ _ (model).lent.at_in _ c.field-2.ensures.lays e) }

-- ---- the level

pub field-requires-3 : goal.field-requires-3
field-requires-3 c =
    let model : Reads Number c.in_ok-m.m c.in_ok-m.name_at c.args.at c.args.line.now c.field.new.bytes c.field.new.parts = field-reads Number c.requires c.field.ensures.lays c.in_ok-m.was c.field.ensures.finds c.field.auto.bytes c.field.auto.parts in
    let name : Reads Name c.in_ok-name.name c.in_ok-name.level_at c.in_ok-m.name_at c.args.line.now c.field-2.new.bytes c.field-2.new.parts = field-reads Name (model).lent c.field-2.ensures.lays c.in_ok-name.was c.field-2.ensures.finds c.field-2.auto.bytes c.field-2.auto.parts in
    (name).lent

pub shape_of-bytes-in_err-l : goal.shape_of-bytes-in_err-l
shape_of-bytes-in_err-l c =
    let bytes_same : length c.field-2.new.bytes ≡ length c.args.bytes.now = c.field-2.auto.bytes ∙ c.field.auto.bytes in
    c.field-3.auto.bytes ∙ bytes_same

pub returns-in_err-l : goal.returns-in_err-l
returns-in_err-l c =
    let model : Reads Number c.in_ok-m.m c.in_ok-m.name_at c.args.at c.args.line.now c.field.new.bytes c.field.new.parts = field-reads Number c.requires c.field.ensures.lays c.in_ok-m.was c.field.ensures.finds c.field.auto.bytes c.field.auto.parts in
    let name : Reads Name c.in_ok-name.name c.in_ok-name.level_at c.in_ok-m.name_at c.args.line.now c.field-2.new.bytes c.field-2.new.parts = field-reads Name (model).lent c.field-2.ensures.lays c.in_ok-name.was c.field-2.ensures.finds c.field-2.auto.bytes c.field-2.auto.parts in
    let model-into : let s = c.args in fields_into caller_kinds s.line.now (words_from s.at s.line.now) (buffers s.bytes.now s.parts.now) ≡ fields_into (Name ∷ Number ∷ []) s.line.now (words_from c.in_ok-m.name_at s.line.now) (buffers c.field.new.bytes c.field.new.parts) = into_next Number _ c.args.at c.args.line.now c.requires.at_in _ c.field.ensures.lays (model).said in
    let name-into : let s = c.args in fields_into caller_kinds s.line.now (words_from s.at s.line.now) (buffers s.bytes.now s.parts.now) ≡ fields_into (Number ∷ []) s.line.now (words_from c.in_ok-name.level_at s.line.now) (buffers c.field-2.new.bytes c.field-2.new.parts) = model-into ∙ into_next Name _ _ _ (model).lent.at_in _ c.field-2.ensures.lays (name).said in
    let e = field-none _ _ _ c.in_err-l.was c.field-3.ensures.finds in
    rw c.from_residual-in_err-l.ensures record { calls = no-level model name e; lays = sym (name-into ∙ into-stop Number _ _ _ (name).lent.at_in _ c.field-3.ensures.lays e) }

pub number_in-level-requires : goal.number_in-level-requires
number_in-level-requires c =
    let model : Reads Number c.in_ok-m.m c.in_ok-m.name_at c.args.at c.args.line.now c.field.new.bytes c.field.new.parts = field-reads Number c.requires c.field.ensures.lays c.in_ok-m.was c.field.ensures.finds c.field.auto.bytes c.field.auto.parts in
    let name : Reads Name c.in_ok-name.name c.in_ok-name.level_at c.in_ok-m.name_at c.args.line.now c.field-2.new.bytes c.field-2.new.parts = field-reads Name (model).lent c.field-2.ensures.lays c.in_ok-name.was c.field-2.ensures.finds c.field-2.auto.bytes c.field-2.auto.parts in
    let level : Reads Number c.in_ok-l.l c.in_ok-l.next c.in_ok-name.level_at c.args.line.now c.field-3.new.bytes c.field-3.new.parts = field-reads Number (name).lent c.field-3.ensures.lays c.in_ok-l.was c.field-3.ensures.finds c.field-3.auto.bytes c.field-3.auto.parts in
    number-within level

pub shape_of-bytes : goal.shape_of-bytes
shape_of-bytes c =
    let bytes_same : length c.field-2.new.bytes ≡ length c.args.bytes.now = c.field-2.auto.bytes ∙ c.field.auto.bytes in
    c.field-3.auto.bytes ∙ bytes_same

pub shape_of-parts : goal.shape_of-parts
shape_of-parts c =
    let parts_same : length c.field-2.new.parts ≡ length c.args.parts.now = c.field-2.auto.parts ∙ c.field.auto.parts in
    c.field-3.auto.parts ∙ parts_same

pub returns : goal.returns
unfolding fields_into
returns c =
    let model : Reads Number c.in_ok-m.m c.in_ok-m.name_at c.args.at c.args.line.now c.field.new.bytes c.field.new.parts = field-reads Number c.requires c.field.ensures.lays c.in_ok-m.was c.field.ensures.finds c.field.auto.bytes c.field.auto.parts in
    let name : Reads Name c.in_ok-name.name c.in_ok-name.level_at c.in_ok-m.name_at c.args.line.now c.field-2.new.bytes c.field-2.new.parts = field-reads Name (model).lent c.field-2.ensures.lays c.in_ok-name.was c.field-2.ensures.finds c.field-2.auto.bytes c.field-2.auto.parts in
    let level : Reads Number c.in_ok-l.l c.in_ok-l.next c.in_ok-name.level_at c.args.line.now c.field-3.new.bytes c.field-3.new.parts = field-reads Number (name).lent c.field-3.ensures.lays c.in_ok-l.was c.field-3.ensures.finds c.field-3.auto.bytes c.field-3.auto.parts in
    let model-into : let s = c.args in fields_into caller_kinds s.line.now (words_from s.at s.line.now) (buffers s.bytes.now s.parts.now) ≡ fields_into (Name ∷ Number ∷ []) s.line.now (words_from c.in_ok-m.name_at s.line.now) (buffers c.field.new.bytes c.field.new.parts) = into_next Number (Name ∷ Number ∷ []) c.args.at c.args.line.now c.requires.at_in _ c.field.ensures.lays (model).said in
    let name-into : let s = c.args in fields_into caller_kinds s.line.now (words_from s.at s.line.now) (buffers s.bytes.now s.parts.now) ≡ fields_into (Number ∷ []) s.line.now (words_from c.in_ok-name.level_at s.line.now) (buffers c.field-2.new.bytes c.field-2.new.parts) = model-into ∙ into_next Name (Number ∷ []) _ _ (model).lent.at_in _ c.field-2.ensures.lays (name).said in
    record { calls = called model name level (ap (λ u. u.bytes) c.field-3.ensures.lays) c.number_in-model.ensures c.number_in-level.ensures; lays = sym (name-into ∙ into_next Number [] _ _ (name).lent.at_in _ c.field-3.ensures.lays (level).said) }
