-- What judging a set asks for. Assumes nothing.
use Rattle.std.specs.Prelude.{◌≡◌, true, cond, List, ℕ, ◌≤◌}
use Rattle.std.specs.Prelude.{Err}
use Rattle.answers.specs.declared.Refusal.TheVariants.{Faulty}
use Rattle.answers.specs.declared.Fault.TheVariants.{OutOfRange, ContextTable}
use Rattle.rows.specs.declared.Table.{Table}
use Rattle.rows.specs.Rows.{limit}
use Rattle.image_layout.specs.declared.Layout.{Layout}
use Rattle.image_layout.specs.Layout.{layout_of, extent_of}
use Rattle.image_judge.specs.Faults.{tables_at}
use Rattle.image.specs.Store.{is_sound}
use Rattle.decision_parts.specs.Types.{Standing}
use Rattle.edit_rules.specs.Types.{Edited}
use Rattle.edit_rules.specs.Edits.{Edit, shape_of, index_of_edit, legal_edit, is_context, row_fault, faulted}
use Rattle.edit_rights.specs.Standing.{StandingIn, judged_by}
use Rattle.edits.specs.Calls.{allowed}

-- a sound store, where its tables lie, and a standing in it
pub record Judging (w : List ℕ) (l : Layout) (standing : Standing) : Type 0 where
  pub sound : is_sound w ≡ true
  pub laid : l ≡ layout_of w
  pub stands : StandingIn w standing

-- an edit judged whole by a standing, room excepted: 7 for what it is handed; 12; 1 to 5; 10 or 18, then 11
unfoldable pub judged_with : List ℕ → Layout → Standing → Edit → Edited
judged_with w l standing e =
    cond (legal_edit e)
    (cond (is_context e.table) (Err (Faulty ContextTable))
    (allowed (judged_by w standing (shape_of e.operation) e.table (index_of_edit e)) (faulted (row_fault true (tables_at w l) e))))
    (Err (Faulty OutOfRange))

-- tables of no more rows than they may have
abbrev pub Limited : Layout → Type 0
Limited l = (t : Table) → (extent_of t l).count ≤ limit t
