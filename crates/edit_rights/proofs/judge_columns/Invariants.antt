-- `edit_rights::judge_columns` meets its contract. The loop's invariant: the first refusal among the columns that are left is the first of all, and the
-- variable is as found but for the part that is exchanged. Assumes nothing.
use mathlib.Core.Path.{◌≡◌}
use mathlib.Core.List.{List}
use Prim.Native.Nat.{ℕ, ◌-◌}
use lib.ListN.{length, set}
use Rattle.answers.specs.declared.Decision.{Decision}
use Rattle.decision_steps.specs.Decision.{step5}
use Rattle.decision_parts.specs.declared.NamedView.{NamedView}
use Rattle.decision_parts.specs.Parts.{rows_of}
use Rattle.instance_encode.specs.Instances.{counted}
use Rattle.edit_rules.specs.Edits.{first_refusal}
use Rattle.edit_rights.proofs.judge_columns.Given as goal

-- a column judged by the view
abbrev pub judged_by : List ℕ → NamedView → List ℕ → ℕ → ℕ → Decision
judged_by w v variable at column = step5 (set variable at column) (rows_of w v)

abbrev pub invariant-loop-column : goal.invariant-loop-column
invariant-loop-column l = record {
  long : length l.variable ≡ length l.initial.variable;
  own : (x : ℕ) → set l.variable l.at x ≡ set l.initial.variable l.at x;
  first : first_refusal (judged_by l.w l.v l.initial.variable l.at) (counted l.column (l.column-end - l.column))
      ≡ first_refusal (judged_by l.w l.v l.initial.variable l.at) (counted l.first (l.column-end - l.first));
}
