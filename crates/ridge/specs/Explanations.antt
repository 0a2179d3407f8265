-- P1 to P9 explained (document 02, ticket 5): each answer with the rows behind it, on the Ridge tables; proved in proofs/Explanations.antt.
-- Assumes nothing.
use Rattle.std.specs.Prelude.{◌≡◌, List, [], ◌∷◌, ℕ}
use Rattle.std.proofs.Math.Option.{Option, none, some}
use Rattle.std.specs.Prelude.{Ok}
use Rattle.answers.specs.declared.Cause.TheVariants.{NoSuchContext, NoGroupName, NoAccessEntry, NoSuchView, NotInView}
use Rattle.answers.specs.declared.Decision.{Decision}
use Rattle.answers.specs.declared.Decision.TheVariants.{Allowed, Refused}
use Rattle.rows.specs.Rows.{MappingRow, AccessRow, ViewRow}
use Rattle.decision_steps.specs.Request.{asked, read, write, notify}
use Rattle.explain_rules.specs.Explanation.{Explanation, explanation}
use Rattle.ridge.specs.Ridge.{ridge_tables, ann, bob, cal, ridge, ridge1, row_ann, row_cal, row_a, row_b, row_all, row_included, row_excluded}
use Rattle.ridge.specs.Examples.{below}

-- security name, level, view type, context, the variable's last parts
abbrev pub explained_to : List ℕ → ℕ → ℕ → List ℕ → List ℕ → Explanation
explained_to name level view context parts = explanation (some ridge_tables) (asked 3 name level view context (below parts))

abbrev pub by : Decision → Option MappingRow → Option AccessRow → Option ViewRow → Explanation
by decision mapping access view = record { answer = Ok decision; mapping = mapping; access = access; view = view }

pub record RidgeExplained : Type 0 where
  pub p1 : explained_to ann 3 read ridge1 (8 ∷ 2 ∷ []) ≡ by Allowed (some row_ann) (some row_b) (some row_included)
  pub p2 : explained_to ann 3 read ridge1 (8 ∷ 3 ∷ []) ≡ by (Refused NotInView) (some row_ann) (some row_b) none
  pub p3 : explained_to ann 3 read ridge1 (7 ∷ 2 ∷ []) ≡ by (Refused NotInView) (some row_ann) (some row_b) (some row_excluded)
  pub p4 : explained_to ann 1 read ridge1 (7 ∷ 2 ∷ []) ≡ by Allowed (some row_ann) (some row_a) (some row_all)
  -- row A names no view for write, and for notify one that has no rows
  pub p5 : explained_to ann 1 write ridge1 (7 ∷ 2 ∷ []) ≡ by (Refused NoSuchView) (some row_ann) (some row_a) none
  pub p6 : explained_to ann 1 notify ridge1 (7 ∷ 2 ∷ []) ≡ by (Refused NoSuchView) (some row_ann) (some row_a) none
  pub p7 : explained_to ann 3 read ridge (8 ∷ 2 ∷ []) ≡ by (Refused NoSuchContext) none none none
  pub p8 : explained_to bob 3 read ridge1 (8 ∷ 2 ∷ []) ≡ by (Refused NoGroupName) none none none
  pub p9 : explained_to cal 3 read ridge1 (8 ∷ 2 ∷ []) ≡ by (Refused NoAccessEntry) (some row_cal) none none
