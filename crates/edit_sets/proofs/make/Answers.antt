-- `edit_sets::make` meets its contract: an edit of the other shape leaves the store, and one of this shape is the owner's edit of it. Assumes nothing.
use mathlib.Core.Path.{refl, sym, ◌∙◌}
use Rattle.numbers.proofs.Bools.{clash}
use Rattle.edit_rules.specs.Edits.{Edit}
use Rattle.set_rules.specs.Handed.{edit_in}
use Rattle.set_rules.proofs.Promises.{makes-other, makes-own}
use Rattle.edit_sets.proofs.make.Goals as goal

pub returns-then-not-has_shape : goal.returns-then-not-has_shape
returns-then-not-has_shape c =
    let wanted : Edit = edit_in c.args.x c.args.bytes.now in
    makes-other c.args.s wanted c.args.w.now (sym c.has_shape.ensures ∙ c.if-not-has_shape.true)

pub edit_laid-requires : goal.edit_laid-requires
edit_laid-requires c = record { sound = c.requires; laid = c.layout_of-l.ensures; free = λ e. clash e refl }

pub returns : goal.returns
returns c =
    let wanted : Edit = edit_in c.args.x c.args.bytes.now in
    makes-own c.args.s wanted c.bytes_of.ensures (sym c.has_shape.ensures ∙ c.if-not-has_shape.false) c.edit_laid.ensures
