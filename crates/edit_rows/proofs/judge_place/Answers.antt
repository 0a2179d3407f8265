-- `edit_rows::judge_place` meets its contract: a row that is held where none may be, or not held where one must, is refused as it is; past that, the
-- storage, or that the owner edits, decides. Assumes nothing.
use mathlib.Core.Path.{◌≡◌, refl, sym, ◌∙◌}
use mathlib.Core.Bool.{Bool, cond, not, ◌&&◌}
use mathlib.Core.Option.{Option, none, some}
use Rattle.std.specs.Prelude.{Ok, Err}
use Rattle.answers.specs.declared.Fault.{Fault}
use Rattle.answers.specs.declared.Fault.TheVariants.{StorageForbids}
use Rattle.answers.specs.declared.Refusal.{Refusal}
use Rattle.answers.proofs.Results.{handed_on}
use Rattle.rows.specs.Fields.{or_else}
use Rattle.edit_rules.specs.Types.{Edited}
use Rattle.edit_rules.specs.Edits.{shape_of, faulted, presence_fault}
use Rattle.edit_rules.specs.Storage.{storage_in, storage_at, may_edit}
use Rattle.edit_rules.proofs.Outcomes.{faulty-done, done-refused}
use Rattle.edit_rows.proofs.judge_place.Goals as goal
use Rattle.edit_rows.proofs.judge_place.Goals.{else-strict-via-then-strict+else-not-may_edit, else-strict-via-else-strict}

-- the first fault stands; where there is none, the second decides

first-fault : (f g : Option Fault) {r : Edited} {e : Refusal} → r ≡ faulted f → r ≡ Err e → r ≡ faulted (or_else f g)
first-fault none g e m = absurd (done-refused (sym e ∙ m))
first-fault (some f) g e m = e

second-fault : (f g : Option Fault) → faulted f ≡ (Ok tt) → faulted (or_else f g) ≡ faulted g
second-fault none g e = refl
second-fault (some f) g e = absurd (faulty-done e)

-- the second: the storage, where a principal edits
abbrev forbidden : Bool → Bool → Option Fault
forbidden strict lets = cond (strict && not lets) (some StorageForbids) none

pub returns-in_err-judge_presence : goal.returns-in_err-judge_presence
returns-in_err-judge_presence c =
    let a = c.args in
    handed_on c.in_err-judge_presence.was c.from_residual.ensures
    ∙ first-fault (presence_fault a.o a.p.present) (forbidden a.strict (may_edit (shape_of a.o) (storage_at a.w.now a.p) (storage_in a.bytes.now)))
    c.judge_presence.ensures c.in_err-judge_presence.was

pub may_edit-requires : goal.may_edit-requires
may_edit-requires c = rw c.shape_of.ensures (c.requires c.if-strict.true)

pub returns-then-not-may_edit : goal.returns-then-not-may_edit
returns-then-not-may_edit c =
    let a = c.args in
    rw (
      second-fault (presence_fault a.o a.p.present) _ (sym c.judge_presence.ensures ∙ c.in_ok-judge_presence.was),
      c.if-strict.true,
      ← c.shape_of.ensures,
      ← c.may_edit.ensures,
      c.if-not-may_edit.true,
    )

pub returns : goal.returns
returns c =
    let a = c.args in
    let passed = second-fault (presence_fault a.o a.p.present) (forbidden a.strict (may_edit (shape_of a.o) (storage_at a.w.now a.p) (storage_in a.bytes.now)))
    (sym c.judge_presence.ensures ∙ c.in_ok-judge_presence.was) in
    elim c.else-strict.branch [
      | else-strict-via-then-strict+else-not-may_edit w ↦ rw (passed, w.if-strict.true, ← w.shape_of.ensures, ← w.may_edit.ensures, w.if-not-may_edit.false)
      | else-strict-via-else-strict w ↦ rw (passed, w.if-strict.false)
    ]
